-- What is written has no blanks.
use Rattle.std.proofs.Common.{◌≡◌, ◌<◌, ◌≤◌, ◌-◌, ◌^◌, ℕ, suc, Bool, true, false, ◌&&◌, cond, nat_le, List, [], ◌∷◌, length, map, Some, refl, ap₂, subst, arith, codes}
use Rattle.std.specs.Prelude.{decimal, pos}
use Rattle.std.specs.List.{list_all}
use Rattle.op_network.specs.declared.edge.Parts.{Parts}
use Rattle.suite_file.specs.Records.{Text, trimmed}
use Rattle.op_network.specs.declared.edge.EdgeId.{EdgeId}
use Rattle.std.proofs.lemmas.List.Elements.{All-head, All-tail}
use Rattle.std.specs.Fmt.{signed_decimal}
use Rattle.suite_file.specs.Suites.{is_name, is_printable, type_at}
use Rattle.suite_file.specs.Values.{is_digit}
use Rattle.std.proofs.lemmas.Bool.{ne_eqb}
use Rattle.std.proofs.lemmas.Fmt.{digits_decimal}
use Rattle.std.proofs.Common.{slice_index_or, ℤ, negsuc, All}
use Rattle.std.specs.Prelude.{slice_get}
use Rattle.std.proofs.lemmas.Int.{ints}
use Rattle.std.proofs.lemmas.Option.{slice_get_within, get_or_from_slice_get, slice_get-get_or}
use Rattle.op_network.specs.Values.{IsWord}
use Rattle.op_network.specs.Valid.{HasType, IsEnumerator, IsChoice, IsValid}
use Rattle.op_network.specs.declared.value.Ty.{Ty}
use Rattle.op_network.specs.declared.value.Ty.TheVariants as type
use Rattle.op_network.specs.declared.value.Value.{Value}
use Rattle.op_network.specs.declared.value.Value.TheVariants.{Truth, Word, Choice as Enumerator}
use Rattle.suite_file.specs.Written.{value_text, texts_of}
use Rattle.suite_file.proofs.Digits.{is_within}
use Rattle.suite_file.proofs.Inputs.{AreTyped}
use Rattle.suite_file.proofs.Solid.{both, is_solid, kept}
use Rattle.suite_file.proofs.ValuesBack.{half_small, in_digit, numerals}

-- ---- solid texts

digits_solid : (ds : Text) → list_all is_digit ds ≡ true → is_solid ds ≡ true
digits_solid [] h = refl
digits_solid (d ∷ ds) h =
    let s = both (is_digit d) (list_all is_digit ds) h in
    let range = in_digit d s.0 in
    rw (ne_eqb d 32 (λ q. omega (arith, range.0, q)), ne_eqb d 9 (λ q. omega (arith, range.0, q)), digits_solid ds s.1) refl

pub printed_solid : (name : Text) → All (λ b. (0x21 ≤ b) × (b ≤ 0x7E)) name → is_solid name ≡ true
printed_solid [] h = refl
printed_solid (b ∷ name) h =
    let range = All-head (λ b. (0x21 ≤ b) × (b ≤ 0x7E)) b name h in
    rw (ne_eqb b 32 (λ q. omega (arith, range.0, q)), ne_eqb b 9 (λ q. omega (arith, range.0, q)), printed_solid name (All-tail (λ b. (0x21 ≤ b) × (b ≤ 0x7E)) b name h)) refl

pub name_solid : (name : Text) → is_name name ≡ true → is_solid name ≡ true
name_solid name h = bytes_solid name (both (nat_le 1 (length name) && nat_le (length name) 64) (list_all is_printable name) h).1
  where
    bytes_solid : (name : Text) → list_all is_printable name ≡ true → is_solid name ≡ true
    bytes_solid [] h = refl
    bytes_solid (b ∷ name) h =
        let s = both (is_printable b) (list_all is_printable name) h in
        let low = is_within 0x21 b (both (nat_le 0x21 b) (nat_le b 0x7E) s.0).0 in
        rw (ne_eqb b 32 (λ q. omega (arith, low, q)), ne_eqb b 9 (λ q. omega (arith, low, q)), bytes_solid name s.1) refl

truth_solid : (b : Bool) → is_solid (cond b (codes "1") (codes "0")) ≡ true
truth_solid true = refl
truth_solid false = refl

word_solid : (parts : Parts) (w : ℤ) → 1 ≤ parts.width → parts.width ≤ 32 → IsWord parts.width w → is_solid (signed_decimal w) ≡ true
word_solid parts (pos n) l u h =
    let small = half_small parts.width l u in
    let below : n < 2 ^ (parts.width - 1) = omega (arith, ints, h.1) in
    digits_solid (decimal n) (digits_decimal numerals n (omega (arith, small, below)))
word_solid parts (negsuc n) l u h =
    let small = half_small parts.width l u in
    let below : suc n ≤ 2 ^ (parts.width - 1) = omega (arith, ints, h.0) in
    digits_solid (decimal (suc n)) (digits_decimal numerals (suc n) (omega (arith, small, below)))

choice_solid : (parts : Parts) (c k : ℕ) → All IsChoice parts.choices → IsEnumerator parts.choices c k → is_solid (value_text parts (type.Choice c) (Enumerator k)) ≡ true
choice_solid parts c k valid h =
    let choice = h.0 in
    let name = slice_index_or choice.names k [] in
    let is : slice_get choice.names k ≡ Some name = slice_get-get_or choice.names k [] h.2 in
    let good : IsChoice choice = subst IsChoice (get_or_from_slice_get parts.choices c choice choice h.1) (valid c choice (slice_get_within parts.choices c choice h.1)) in
    rw (h.1, is) (printed_solid name (good.names k [] h.2).printable)

value_solid : (parts : Parts) (ty : Ty) (v : Value) → IsValid parts → HasType parts v ty → is_solid (value_text parts ty v) ≡ true
value_solid parts type.Truth (Truth b) valid h = truth_solid b
value_solid parts type.Truth (Word w) valid h = absurd h
value_solid parts type.Truth (Enumerator k) valid h = absurd h
value_solid parts type.Word (Truth b) valid h = absurd h
value_solid parts type.Word (Word w) valid h = word_solid parts w (omega (arith, valid.narrowest)) valid.widest h
value_solid parts type.Word (Enumerator k) valid h = absurd h
value_solid parts (type.Choice c) (Truth b) valid h = absurd h
value_solid parts (type.Choice c) (Word w) valid h = absurd h
value_solid parts (type.Choice c) (Enumerator k) valid h = choice_solid parts c k valid.choices h

pub texts_kept : (parts : Parts) (inputs : List EdgeId) (row : List Value) → IsValid parts → AreTyped parts inputs row → map trimmed (texts_of parts inputs row) ≡ texts_of parts inputs row
texts_kept parts [] [] valid h = refl
texts_kept parts [] (v ∷ row) valid h = absurd h
texts_kept parts (e ∷ inputs) [] valid h = absurd h
texts_kept parts (e ∷ inputs) (v ∷ row) valid h = ap₂ (λ (x : Text) (y : List Text). x ∷ y) (kept (value_text parts (type_at parts.edges e.0) v) (value_solid parts (type_at parts.edges e.0) v valid h.0)) (texts_kept parts inputs row valid h.1)
