-- The values that a model gives words, rows and hits.
use Rattle.std.proofs.Common.{◌≡◌, ℕ, zero, suc, ◌+◌, ◌^◌, ◌<◌, ◌≤◌, Bool, true, false, ◌||◌, List, [], ◌∷◌, ◌++◌, length, map, take, get_or, refl, sym, ap, ap₂, ◌∙◌, subst, inl, inr, arith, Some, pos, append_assoc}
use Rattle.std.specs.Prelude.{slice_get, nat_le}
use Rattle.std.specs.Option.{option_map}
use Rattle.std.proofs.lemmas.Bool.{cases_Bool, false≢true}
use Rattle.std.proofs.lemmas.Int.{ints}
use Rattle.std.proofs.lemmas.List.{take_more}
use Rattle.cnf_form.specs.declared.lit.Lit.{Lit}
use Rattle.cnf_form.specs.Lits.{holds, truth}
use Rattle.op_network.specs.declared.edge.Edge.{Edge}
use Rattle.op_network.specs.declared.edge.EdgeId.{EdgeId}
use Rattle.op_network.specs.declared.edge.Parts.{Parts}
use Rattle.op_network.specs.declared.value.Ty.{Ty}
use Rattle.op_network.specs.declared.value.Value.{Value}
use Rattle.op_network.specs.Operators.{at_edge}
use Rattle.op_network.specs.Valid.{type_of}
use Rattle.op_network.specs.Values as network
use Rattle.bit_blast.specs.Numbers.{bits, signed}
use Rattle.bit_blast.proofs.Numbers.{residue_is, wrap_of}
use Rattle.unroll_cnf.specs.Laws.{frame_of, row_of}
use Rattle.unroll_cnf.specs.Sizes.{bits_from, bits_of}
use Rattle.unroll_cnf.specs.Unrolled.{Table}
use Rattle.unroll_cnf.specs.Values.{bits_value}
use Rattle.unroll_cnf.proofs.Bits.{wrap_same}
use Rattle.unroll_cnf.proofs.Runs.{reads_own}
use Rattle.unroll_cnf.specs.Made.{Streams, word_at}
use Rattle.bit_blast.specs.Made.{IsBelow}
use Rattle.dep_paths.proofs.Lists.{has_get_or}
use Rattle.dep_paths.proofs.Valid.{closed_of}
use Rattle.lus_causality.proofs.Reading.{take_whole}
use Rattle.goal_cnf.specs.Activity.{lit_at}
use Rattle.goal_cnf.specs.Made.{CanRead}
use Rattle.goal_cnf.proofs.Reading.{words_there}

-- a number of a width is its own residue
pub wrap_is : (w r : ℕ) → 2 ≤ w → r < 2 ^ w → network.wrap w (pos r) ≡ signed w r
wrap_is w r some lt =
    sym (wrap_same w (pos r) (omega arith))
    ∙ (wrap_of w (pos r) 0 r (omega (arith, ints)) ∙ ap (signed w) (residue_is (2 ^ w) r r 0 (omega arith) lt))

-- a choice has at most eight bits
pub few_bits : (n from more : ℕ) → bits_from n from more ≤ from + more
few_bits n from zero = omega arith
few_bits n from (suc more) = elim (cases_Bool (nat_le n (2 ^ from))) [
  | inl e ↦ rw e (omega arith)
  | inr e ↦ rw e (omega (arith, few_bits n (suc from) more))
]

-- no hit is true
pub none_holds : (v : ℕ → Bool) (hits : List Lit) → ((s : ℕ) → s < length hits → truth v (lit_at hits s) ≡ false) → holds v hits ≡ true → ⊥
none_holds v [] none h = false≢true h
none_holds v (l ∷ hits) none h =
    let first : truth v l ≡ false = none 0 (omega arith) in
    let rest : holds v hits ≡ true = sym (ap (λ x. x || holds v hits) first) ∙ h in
    none_holds v hits (λ s lt. none (suc s) (omega arith)) rest

-- the value of an input
pub input_value : (parts : Parts) (v : ℕ → Bool) (now : Table) (e : EdgeId) (ty : Ty) → type_of parts.edges e ≡ Some ty → at_edge (frame_of parts v now) e ≡ bits_value ty (bits v (now e.0))
input_value parts v now e ty is = reads_own parts v now e ty is

-- the words that are read, and their sizes
module _ (parts : Parts) (un : Streams) (t n : ℕ) (can : CanRead parts un t n) where
  input_there : (i : ℕ) (d : EdgeId) → i < length parts.inputs → (get_or parts.inputs i d).0 < length parts.edges
  input_there i d lt = (closed_of parts can.streams.valid).inputs (get_or parts.inputs i d) (has_get_or parts.inputs i d lt)

  pub input_within : (inputs : List EdgeId) (i : ℕ) (d : EdgeId) → inputs ≡ parts.inputs → i < length inputs → (get_or inputs i d).0 < length parts.edges
  input_within inputs i d e lt = subst (λ (l : List EdgeId). (get_or l i d).0 < length parts.edges) (sym e) (input_there i d (omega (arith, ap (λ (l : List EdgeId). length l) e)))

  pub word_below : (e : EdgeId) (edge : Edge) → slice_get parts.edges e.0 ≡ Some edge → IsBelow n (word_at un.words t e.0)
  word_below e edge is = λ j d lt. let w = (words_there parts un t n can).below e edge.ty (ap (option_map (λ (x : Edge). x.ty)) is) j d lt in omega (arith, w, can.grown)

  pub word_size : (e : EdgeId) (edge : Edge) → slice_get parts.edges e.0 ≡ Some edge → length (word_at un.words t e.0) ≡ bits_of parts edge.ty
  word_size e edge is = (words_there parts un t n can).size e edge.ty (ap (option_map (λ (x : Edge). x.ty)) is)

-- the values of the first inputs
abbrev pub first_values : Parts → (ℕ → Bool) → Table → ℕ → List Value
first_values parts v now i = map (at_edge (frame_of parts v now)) (take i parts.inputs)

map_push : (f : EdgeId → Value) (xs : List EdgeId) (x : EdgeId) → map f (xs ++ x ∷ []) ≡ map f xs ++ f x ∷ []
map_push f [] x = refl
map_push f (y ∷ xs) x = ap (λ (l : List Value). f y ∷ l) (map_push f xs x)

pub values_next : (parts : Parts) (v : ℕ → Bool) (now : Table) (old values longer : List Value) (i : ℕ) (e d : EdgeId) (edge : Edge) (value : Value) → values ≡ old ++ first_values parts v now i → i < length parts.inputs → e ≡ get_or parts.inputs i d →
    slice_get parts.edges e.0 ≡ Some edge → value ≡ bits_value edge.ty (bits v (now e.0)) → longer ≡ values ++ value ∷ [] → longer ≡ old ++ first_values parts v now (i + 1)
values_next parts v now old values longer i e d edge value s lt at is b l =
    let f = at_edge (frame_of parts v now) in
    let own : value ≡ f e = b ∙ sym (reads_own parts v now e edge.ty (ap (option_map (λ (x : Edge). x.ty)) is)) in
    l
    ∙ (ap₂ (λ (x : List Value) (y : Value). x ++ y ∷ []) s own
    ∙ (append_assoc old (first_values parts v now i) (f e ∷ [])
    ∙ ap (λ (z : List Value). old ++ z)
    (sym (map_push f (take i parts.inputs) e) ∙ ap (map f) (ap (λ (x : EdgeId). take i parts.inputs ++ x ∷ []) at ∙ sym (take_more parts.inputs i d lt)))))

pub values_end : (parts : Parts) (v : ℕ → Bool) (now : Table) (old values : List Value) (i : ℕ) → values ≡ old ++ first_values parts v now i → length parts.inputs ≤ i → values ≡ old ++ row_of parts v now
values_end parts v now old values i s le = s ∙ ap (λ (l : List EdgeId). old ++ map (at_edge (frame_of parts v now)) l) (take_whole parts.inputs i le)
