-- Passages and flags that are put one after the other.
use Rattle.std.proofs.Common.{◌≡◌, ◌≢◌, ◌∙◌, ⊎_elim, ℕ, zero, suc, ◌+◌, ◌<◌, ◌≤◌, Bool, false, List, [], ◌∷◌, Option, Some, None, length, set, get_or, slice_get, refl, sym, ap, subst, arith}
use Rattle.std.specs.Option.{ForSome}
use Rattle.std.proofs.lemmas.Bool.{cases_eq}
use Rattle.std.proofs.lemmas.List.{get_or-set_other}
use Rattle.std.proofs.lemmas.Option.{slice_get_within, slice_get-get_or}
use Rattle.op_network.specs.declared.edge.Edge.{Edge}
use Rattle.op_network.specs.declared.value.Value.{Value}
use Rattle.activation.specs.declared.passage.Passage.{Passage}
use Rattle.activation.specs.declared.passage.Passage.TheVariants.{Shut}
use Rattle.activation.specs.declared.tree.Gate.{Gate}
use Rattle.activation.specs.declared.tree.Node.{Node}
use Rattle.activation.specs.Passing.{AreFlags, AreFlagsBelow, AreInPlace, ArePassages, ArePassagesBelow, flag_by, flag_of, parent_flag, passage_of}

get_other : {X : Type 0} (xs : List X) (i j : ℕ) (x : X) → i ≢ j → slice_get (set xs j x) i ≡ slice_get xs i
get_other [] i j v apart = refl
get_other (x ∷ xs) zero zero v apart = absurd (apart refl)
get_other (x ∷ xs) zero (suc j) v apart = refl
get_other (x ∷ xs) (suc i) zero v apart = refl
get_other (x ∷ xs) (suc i) (suc j) v apart = get_other xs i j v (λ e. apart (ap suc e))

get_here : {X : Type 0} (xs : List X) (j : ℕ) (x : X) → j < length xs → slice_get (set xs j x) j ≡ Some x
get_here [] j v lt = absurd (omega (arith, lt))
get_here (x ∷ xs) zero v lt = refl
get_here (x ∷ xs) (suc j) v lt = get_here xs j v (omega (arith, lt))

pub no_passages : (edges : List Edge) (frame : List Value) (begun : Bool) (gates : List Gate) (passages : List Passage) → ArePassagesBelow 0 edges frame begun gates passages
no_passages edges frame begun gates passages = record { each = λ j gate below there. absurd (omega (arith, below)) }

pub more_passages : (i : ℕ) (edges : List Edge) (frame : List Value) (begun : Bool) (gates : List Gate) (passages : List Passage) (d : Gate) → i < length gates → length passages ≡ length gates → ArePassagesBelow i edges frame begun gates passages → ArePassagesBelow (i + 1) edges frame begun gates (set passages i (passage_of edges frame begun (get_or gates i d)))
more_passages i edges frame begun gates passages d within size so_far = record {
  each = λ j gate below there. ⊎_elim
      (λ same.
      let is : Some (get_or gates i d) ≡ Some gate = sym (slice_get-get_or gates i d within) ∙ sym (ap (slice_get gates) same) ∙ there in
      ap (slice_get new) same ∙ get_here passages i put (omega (arith, within, size)) ∙ ap (λ (o : Option Gate). option_passage o) is)
      (λ apart. get_other passages j i put apart ∙ so_far.each j gate (omega (arith, below, apart)) there)
      (cases_eq j i);
}
  where
    put : Passage
    put = passage_of edges frame begun (get_or gates i d)

    new : List Passage
    new = set passages i put

    option_passage : Option Gate → Option Passage
    option_passage None = None
    option_passage (Some gate) = Some (passage_of edges frame begun gate)

pub all_passages : (i : ℕ) (edges : List Edge) (frame : List Value) (begun : Bool) (gates : List Gate) (passages : List Passage) → length gates ≤ i → ArePassagesBelow i edges frame begun gates passages → ArePassages edges frame begun gates passages
all_passages i edges frame begun gates passages full done = record { each = λ j gate there. done.each j gate (omega (arith, full, slice_get_within gates j gate there)) there }

-- places are judged by how many gates there are
pub same_gates : (gates passages : ℕ) (nodes : List Node) → passages ≡ gates → AreInPlace gates nodes → AreInPlace passages nodes
same_gates gates passages nodes same place = subst (λ (n : ℕ). AreInPlace n nodes) (sym same) place

-- a flag that is put leaves those of the nodes before it
parent_other : (flags : List Bool) (i n : ℕ) (v : Bool) (parent : Option ℕ) → n ≤ i → ForSome parent (λ p. p < n) → parent_flag (set flags i v) parent ≡ parent_flag flags parent
parent_other flags i n v None below h = refl
parent_other flags i n v (Some p) below h = get_or-set_other flags i p v false (λ same. absurd (omega (arith, below, h p refl, same)))

pub no_flags : (nodes : List Node) (passages : List Passage) (before flags : List Bool) → AreFlagsBelow 0 nodes passages before flags
no_flags nodes passages before flags = record { each = λ j node below there. absurd (omega (arith, below)) }

pub more_flags : (i gates : ℕ) (nodes : List Node) (passages : List Passage) (before flags : List Bool) (d : Node) → i < length nodes → length flags ≡ length nodes → AreInPlace gates nodes → AreFlagsBelow i nodes passages before flags → AreFlagsBelow (i + 1) nodes passages before (set flags i (flag_of passages before flags (get_or nodes i d)))
more_flags i gates nodes passages before flags d within size place so_far = record {
  each = λ j node below there. ⊎_elim
      (λ same.
      let is : Some (get_or nodes i d) ≡ Some node = sym (slice_get-get_or nodes i d within) ∙ sym (ap (slice_get nodes) same) ∙ there in
      ap (slice_get new) same ∙ get_here flags i put (omega (arith, within, size)) ∙ ap (λ (o : Option Node). option_flag o) is ∙ ap Some (kept j node below there))
      (λ apart. get_other flags j i put apart ∙ so_far.each j node (omega (arith, below, apart)) there ∙ ap Some (kept j node below there))
      (cases_eq j i);
}
  where
    put : Bool
    put = flag_of passages before flags (get_or nodes i d)

    new : List Bool
    new = set flags i put

    option_flag : Option Node → Option Bool
    option_flag None = None
    option_flag (Some node) = Some (flag_of passages before flags node)

    kept : (j : ℕ) (node : Node) → j < i + 1 → slice_get nodes j ≡ Some node → flag_of passages before flags node ≡ flag_of passages before new node
    kept j node below there = ap (λ (b : Bool). flag_by (get_or passages node.gate Shut) b (parent_flag before node.parent)) (sym (parent_other flags i j put node.parent (omega (arith, below)) (place.each j node there).parent))

pub all_flags : (i : ℕ) (nodes : List Node) (passages : List Passage) (before flags : List Bool) → length nodes ≤ i → AreFlagsBelow i nodes passages before flags → AreFlags nodes passages before flags
all_flags i nodes passages before flags full done = record { each = λ j node there. done.each j node (omega (arith, full, slice_get_within nodes j node there)) there }
