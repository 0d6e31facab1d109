-- The places of the conditions of a plan.
use Rattle.std.proofs.Common.{◌≡◌, ◌∙◌, ◌⊎◌, ⊎_elim, inl, inr, ℕ, zero, suc, ◌+◌, ◌<◌, ◌≤◌, true, false, List, [], ◌∷◌, ◌++◌, Option, Some, None, refl, sym, ap, subst, arith, length, length-append, get_or, slice_get, is_some}
use Rattle.std.proofs.lemmas.Bool.{cases_eq, cases_lt}
use Rattle.std.proofs.lemmas.Option.{slice_get_past, slice_get_within, slice_get-get_or}
use Rattle.op_network.specs.declared.edge.Edge.{Edge}
use Rattle.op_network.specs.declared.edge.EdgeId.{EdgeId}
use Rattle.op_network.specs.Operators.{operands_in, operands_of}
use Rattle.dep_paths.specs.declared.path.Condition.{Condition}
use Rattle.dep_paths.specs.Conditions.{operand_at}
use Rattle.omcdc_tags.specs.declared.limits.TheConstants.{MOST_OPERANDS}
use Rattle.omcdc_tags.specs.Ports.{ArePlacesBelow, Grows}
use Rattle.omcdc_tags.specs.Tags.{HasPlace, IsPlace}
use Rattle.omcdc_tags.proofs.Tables.{get_new, get_old, get_push, narrow_port, no_item}

some_at : {A : Type 0} (xs : List A) (i : ℕ) → i < length xs → is_some (slice_get xs i) ≡ true
some_at [] i lt = absurd (omega (arith, lt))
some_at (x ∷ xs) zero lt = refl
some_at (x ∷ xs) (suc i) lt = some_at xs i (omega (arith, lt))

none_at : {A : Type 0} (xs : List A) (i : ℕ) → length xs ≤ i → is_some (slice_get xs i) ≡ false
none_at xs i past = ap is_some (slice_get_past xs i past)

pub has_operand : (edges : List Edge) (port : Condition) → port.port < length (operands_of edges port.edge) → is_some (operand_at edges port) ≡ true
has_operand edges port lt = some_at (operands_of edges port.edge) port.port lt

pub lacks_operand : (edges : List Edge) (port : Condition) → length (operands_of edges port.edge) ≤ port.port → is_some (operand_at edges port) ≡ false
lacks_operand edges port past = none_at (operands_of edges port.edge) port.port past

pub lacks_edge : (edges : List Edge) (port : Condition) → length edges ≤ port.edge.0 → is_some (operand_at edges port) ≡ false
lacks_edge edges port past = ap (λ (o : Option Edge). is_some (slice_get (operands_in o) port.port)) (slice_get_past edges port.edge.0 past)

edge_within : (edges : List Edge) (port : Condition) (at : (port.edge.0 < length edges) ⊎ (length edges ≤ port.edge.0)) → is_some (operand_at edges port) ≡ true → port.edge.0 < length edges
edge_within edges port (inl lt) some = lt
edge_within edges port (inr past) some = absurd (cc_of (sym some ∙ lacks_edge edges port past))
  where
    cc_of : true ≡ false → ⊥
    cc_of same = grind (arith, same)

some_port : (edges : List Edge) (port : Condition) (o : Option EdgeId) → operand_at edges port ≡ o → is_some o ≡ true → port.port < MOST_OPERANDS
some_port edges port None read some = absurd (grind (arith, some))
some_port edges port (Some a) read some = narrow_port edges port.edge port.port a read

-- a port that has an operand is one of an edge
pub port_within : (edges : List Edge) (port : Condition) → is_some (operand_at edges port) ≡ true → (port.edge.0 < length edges) × (port.port < MOST_OPERANDS)
port_within edges port some = (edge_within edges port (cases_lt port.edge.0 (length edges)) some, some_port edges port (operand_at edges port) refl some)

has_by : (o : Option EdgeId) (ports : List Condition) (c : Condition) (k : ℕ) → is_some o ≡ true → slice_get ports k ≡ Some c → IsPlace o ports c (Some k)
has_by None ports c k some at = absurd (grind (arith, some))
has_by (Some a) ports c k some at = at

pub has_place : (edges : List Edge) (ports : List Condition) (c : Condition) (k : ℕ) → is_some (operand_at edges c) ≡ true → slice_get ports k ≡ Some c → IsPlace (operand_at edges c) ports c (Some k)
has_place edges ports c k some at = has_by (operand_at edges c) ports c k some at

has_none : (o : Option EdgeId) (ports : List Condition) (c : Condition) → is_some o ≡ false → IsPlace o ports c None
has_none None ports c none = refl
has_none (Some a) ports c none = absurd (grind (arith, none))

pub has_no_place : (edges : List Edge) (ports : List Condition) (c : Condition) → is_some (operand_at edges c) ≡ false → IsPlace (operand_at edges c) ports c None
has_no_place edges ports c none = has_none (operand_at edges c) ports c none

place_grows : (o : Option EdgeId) (old new : List Condition) (c : Condition) (place : Option ℕ) → Grows old new → IsPlace o old c place → IsPlace o new c place
place_grows None old new c place grows is = is
place_grows (Some a) old new c None grows is = is
place_grows (Some a) old new c (Some k) grows is = grows.kept k c is

place_within : (o : Option EdgeId) (ports : List Condition) (c : Condition) (place : Option ℕ) (k : ℕ) → IsPlace o ports c place → place ≡ Some k → k < length ports
place_within None ports c place k is some = absurd (grind (arith, is, some))
place_within (Some a) ports c None k is some = absurd is
place_within (Some a) ports c (Some j) k is some = let same : j ≡ k = cc in omega (arith, same, slice_get_within ports j c is)

length_grows : (old new : List Condition) (k : ℕ) → Grows old new → k < length old → k < length new
length_grows old [] k grows lt = absurd (grown old k grows lt)
  where
    grown : (old : List Condition) (k : ℕ) → Grows old [] → k < length old → ⊥
    grown [] k grows lt = omega (arith, lt)
    grown (c ∷ old) k grows lt = no_item 0 c (grows.kept 0 c refl)
length_grows old (d ∷ new) k grows lt = slice_get_within (d ∷ new) k (get_or old k d) (grows.kept k (get_or old k d) (slice_get-get_or old k d lt))

pub no_place_yet : (edges : List Edge) (conditions ports : List Condition) → ArePlacesBelow edges conditions 0 ports []
no_place_yet edges conditions ports = record {
  size = refl;
  placed = record { within = λ j k at. absurd (no_item j (Some k) at) };
  each = λ j c below at. absurd (omega (arith, below));
}

-- one condition more
pub place_more : (edges : List Edge) (conditions old new : List Condition) (i : ℕ) (c : Condition) (place : Option ℕ) (places more : List (Option ℕ)) → ArePlacesBelow edges conditions i old places → Grows old new → slice_get conditions i ≡ Some c
    → IsPlace (operand_at edges c) new c place → more ≡ places ++ place ∷ [] → ArePlacesBelow edges conditions (i + 1) new more
place_more edges conditions old new i c place places more are grows there is added =
    let size = are.size in
    let end : length places ≡ i = size in
    subst (ArePlacesBelow edges conditions (i + 1) new) (sym added) (record {
      size = length-append places (place ∷ []) ∙ ap (λ (n : ℕ). n + 1) size;
      placed = record {
        within = λ j k at. ⊎_elim
            (λ was. length_grows old new k grows (are.placed.within j k was))
            (λ now. place_within (operand_at edges c) new c place k is now.1)
            (get_push places place j (Some k) at);
      };
      each = λ j d below at. ⊎_elim
          (λ same.
          let equal : c ≡ d = some_one c d (sym there ∙ ap (λ (n : ℕ). slice_get conditions n) (sym same) ∙ at) in
          record {
            place = place;
            there = ap (λ (n : ℕ). slice_get (places ++ place ∷ []) n) (same ∙ sym end) ∙ get_new places place;
            is_place = subst (λ (b : Condition). IsPlace (operand_at edges b) new b place) equal is;
          })
          (λ apart.
          let was : HasPlace edges old places j d = are.each j d (omega (arith, below, apart)) at in
          record {
            place = was.place;
            there = get_old places place j was.place was.there;
            is_place = place_grows (operand_at edges d) old new d was.place grows was.is_place;
          })
          (cases_eq j i);
    })
  where
    some_one : (c d : Condition) → Some c ≡ Some d → c ≡ d
    some_one c d same = cc
