-- What is observed is told by the bit of the condition's place.
use Rattle.std.proofs.Common.{◌≡◌, ◌∙◌, ℕ, ◌*◌, ◌<◌, ◌^◌, Bool, true, false, List, Option, Some, None, refl, sym, ap, subst, arith, length, slice_get}
use Rattle.std.proofs.lemmas.Option.{slice_get_within}
use Rattle.op_network.specs.declared.edge.Edge.{Edge}
use Rattle.op_network.specs.declared.edge.EdgeId.{EdgeId}
use Rattle.op_network.specs.declared.edge.Parts.{Parts}
use Rattle.dep_paths.specs.declared.path.Condition.{Condition}
use Rattle.dep_paths.specs.Activation.{Frames}
use Rattle.dep_paths.specs.Conditions.{operand_at}
use Rattle.dep_paths.specs.Duties.{Planned}
use Rattle.omcdc_tags.specs.declared.sets.TagSets.{TagSets}
use Rattle.dep_paths.specs.Observed.{IsObserved}
use Rattle.omcdc_tags.specs.Ports.{ArePlaced, ArePlacesBelow}
use Rattle.omcdc_tags.specs.Rows.{AreSized}
use Rattle.omcdc_tags.specs.Tags.{HasPlace, IsMadeFor, IsMadeOver, IsPlace, Kept, TellsObserved, bit_of_tag, has_bit}
use Rattle.omcdc_tags.proofs.Marking.{none_some, false_true}
use Rattle.omcdc_tags.proofs.Standing.{tell_last}

-- ---- bits are within their row

bit_below : (k n : ℕ) (v : Bool) → k < n → bit_of_tag k v < 2 * n
bit_below k n true lt = omega (arith, lt)
bit_below k n false lt = omega (arith, lt)

pub bit_within : (edges : ℕ) (ports : List Condition) (table places : List (Option ℕ)) (sets : TagSets) (i k : ℕ) (v : Bool) → AreSized edges ports table sets → ArePlaced ports places → slice_get places i ≡ Some (Some k)
    → (k < 2 ^ 31) × (bit_of_tag k v < length sets.observed)
bit_within edges ports table places sets i k v sized placed at =
    let within : k < length ports = placed.within i k at in
    let few = sized.few in
    let size = sized.observed in
    (omega (arith, within, few), omega (arith, size, bit_below k (length ports) v within))

-- ---- what the bit tells

some_place : (place : Option ℕ) (k : ℕ) → Some place ≡ Some (Some k) → place ≡ Some k
some_place place k same = cc

none_place : (place : Option ℕ) → Some place ≡ Some None → place ≡ None
none_place place same = cc

port_of : (o : Option EdgeId) (ports : List Condition) (c : Condition) (place : Option ℕ) (k : ℕ) → IsPlace o ports c place → place ≡ Some k → slice_get ports k ≡ Some c
port_of None ports c place k is some = absurd (grind (arith, is, some))
port_of (Some a) ports c None k is some = absurd is
port_of (Some a) ports c (Some j) k is some = let same : j ≡ k = cc in subst (λ (n : ℕ). slice_get ports n ≡ Some c) same is

lacks : (o : Option EdgeId) (ports : List Condition) (c : Condition) (place : Option ℕ) → IsPlace o ports c place → place ≡ None → o ≡ None
lacks None ports c place is none = refl
lacks (Some a) ports c None is none = absurd is
lacks (Some a) ports c (Some j) is none = absurd (grind (arith, none))

-- what no edge has as a port is never observed
unobserved : (net : Parts) (V : Frames) (t : ℕ) (c : Condition) (v : Bool) → operand_at net.edges c ≡ None → IsObserved net V (record { condition = c; value = v }) t → ⊥
unobserved net V t c v none o =
    let value = o.reaches.value in
    none_some value.operand (sym none ∙ ap (λ (port : Condition). operand_at net.edges port) (sym o.reaches.starts) ∙ value.read)

pub tells_some : (kept : Kept) (i k : ℕ) (v answer : Bool) → slice_get kept.places i ≡ Some (Some k) → answer ≡ has_bit kept.sets.observed (bit_of_tag k v) → TellsObserved kept i v answer
tells_some kept i k v answer at is net plan V t c made stands long there =
    let p : HasPlace net.edges kept.ports kept.places i c = made.places i c there in
    let port : slice_get kept.ports k ≡ Some c = port_of (operand_at net.edges c) kept.ports c p.place k p.is_place (some_place p.place k (sym p.there ∙ at)) in
    let told = (tell_last net kept.ports V kept.sets t stands long).observed.each k c v port in
    (λ yes_. told.0 (sym is ∙ yes_), λ o. is ∙ told.1 o)

pub tells_none : (kept : Kept) (i : ℕ) (v answer : Bool) → slice_get kept.places i ≡ Some None → answer ≡ false → TellsObserved kept i v answer
tells_none kept i v answer at is net plan V t c made stands long there =
    let p : HasPlace net.edges kept.ports kept.places i c = made.places i c there in
    let none : operand_at net.edges c ≡ None = lacks (operand_at net.edges c) kept.ports c p.place p.is_place (none_place p.place (sym p.there ∙ at)) in
    (λ yes_. absurd (false_true (sym is ∙ yes_)), λ o. absurd (unobserved net V t c v none o))

-- ---- for which network and plan it was made

pub made_over : (edges : List Edge) (conditions : List Condition) (kept : Kept) → length kept.sets.reached ≡ length edges → ArePlacesBelow edges conditions (length conditions) kept.ports kept.places → IsMadeOver edges conditions kept
made_over edges conditions kept size are = record {
  sets = size;
  size = are.size;
  places = λ i c there. are.each i c (slice_get_within conditions i c there) there;
}

pub still_made : (net : Parts) (plan : Planned) (old new : Kept) → IsMadeFor net plan old → length new.sets.reached ≡ length net.edges → new.ports ≡ old.ports → new.places ≡ old.places → IsMadeFor net plan new
still_made net plan old new made size ports places = record {
  sets = size;
  size = ap (λ (all : List (Option ℕ)). length all) places ∙ made.size;
  places = λ i c there.
      let was : HasPlace net.edges old.ports old.places i c = made.places i c there in
      record {
        place = was.place;
        there = ap (λ (all : List (Option ℕ)). slice_get all i) places ∙ was.there;
        is_place = subst (λ (ps : List Condition). IsPlace (operand_at net.edges c) ps c was.place) (sym ports) was.is_place;
      };
}

pub made_again : (old new : Kept) → new.sets.reached ≡ old.sets.reached → new.ports ≡ old.ports → new.places ≡ old.places → (net : Parts) (plan : Planned) → IsMadeFor net plan old → IsMadeFor net plan new
made_again old new reached ports places net plan made =
    still_made net plan old new made (ap (λ (rows : List (List Bool)). length rows) reached ∙ made.sets) ports places
