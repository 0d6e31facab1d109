-- What the types of operands say, and values of a type as bits.
use Rattle.std.proofs.Common.{◌≡◌, ℕ, ◌-◌, ◌^◌, ◌<◌, ◌≤◌, List, length, refl, sym, ap, ap₂, ◌∙◌, subst, inl, inr, arith, Option, Some, None}
use Rattle.std.specs.Prelude.{pos, slice_get, All}
use Rattle.std.specs.Option.{option_map_or}
use Rattle.std.specs.Int.{int_rem_euclid}
use Rattle.std.specs.Int.RustNames.{unsigned_abs}
use Rattle.std.proofs.lemmas.Bool.{cases_Bool}
use Rattle.std.proofs.lemmas.List.Elements.{All-get_or}
use Rattle.std.proofs.lemmas.Option.{slice_get_within, get_or_from_slice_get}
use Rattle.std.proofs.lemmas.Nat.{pow_pos}
use Rattle.std.proofs.lemmas.Int.{ints}
use Rattle.op_network.specs.declared.edge.Choice.{Choice}
use Rattle.op_network.specs.declared.edge.Parts.{Parts}
use Rattle.op_network.specs.declared.form.Unary.{Unary}
use Rattle.op_network.specs.declared.form.Binary.{Binary}
use Rattle.op_network.specs.declared.value.Ty.{Ty}
use Rattle.op_network.specs.declared.value.Ty.TheVariants as type
use Rattle.op_network.specs.declared.value.Value.{Value}
use Rattle.op_network.specs.declared.value.Value.TheVariants as value
use Rattle.op_network.specs.Operators.{is_same_type, alike, unary_type, binary_type, if_type}
use Rattle.op_network.specs.Valid.{HasType, IsChoice, IsEnumerator, unary_type_of, binary_type_of, if_type_of, arrow_type_of}
use Rattle.op_network.specs.Values.{default, IsWord}
use Rattle.bit_blast.specs.Numbers.{unsigned, signed}
use Rattle.unroll_cnf.specs.Sizes.{bits_of, enumerators}
use Rattle.unroll_cnf.specs.Values.{digits, value_bits, value_word, bits_value}
use Rattle.unroll_cnf.proofs.Bits.{length-digits, length-constants, unsigned-digits, choice_fits, word_residue, residue-signed}
use Rattle.unroll_cnf.proofs.Operators.{type_one, alike_types}

-- ---- the types of operands

pub unary_typed : (o : Unary) (a : Option Ty) (ty : Ty) → unary_type_of o a ≡ Some ty → (x : Ty) × (a ≡ Some x) × (unary_type o x ≡ Some ty)
unary_typed o None ty h = absurd (cc)
unary_typed o (Some x) ty h = (x, refl, h)

pub binary_typed : (o : Binary) (a b : Option Ty) (ty : Ty) → binary_type_of o a b ≡ Some ty → (x : Ty) × (y : Ty) × (a ≡ Some x) × (b ≡ Some y) × (binary_type o x y ≡ Some ty)
binary_typed o None b ty h = absurd (cc)
binary_typed o (Some x) None ty h = absurd (cc)
binary_typed o (Some x) (Some y) ty h = (x, y, refl, refl, h)

if_types : (x y z ty : Ty) → if_type x y z ≡ Some ty → (x ≡ type.Truth) × (y ≡ ty) × (z ≡ ty)
if_types x y z ty h = elim (cases_Bool (is_same_type x type.Truth)) [
  | inl t ↦
      let k : alike y y z ≡ Some ty = rw t at h in
      let e = alike_types y y z ty k in
      (type_one x type.Truth t, sym e.1, sym e.0 ∙ sym e.1)
  | inr t ↦ let k : None ≡ Some ty = rw t at h in absurd (cc)
]

pub if_typed : (a b c : Option Ty) (ty : Ty) → if_type_of a b c ≡ Some ty → (a ≡ Some type.Truth) × (b ≡ Some ty) × (c ≡ Some ty)
if_typed None b c ty h = absurd (cc)
if_typed (Some x) None c ty h = absurd (cc)
if_typed (Some x) (Some y) None ty h = absurd (cc)
if_typed (Some x) (Some y) (Some z) ty h = let e = if_types x y z ty h in (ap Some e.0, ap Some e.1, ap Some e.2)

pub arrow_typed : (a b : Option Ty) (ty : Ty) → arrow_type_of a b ≡ Some ty → (a ≡ Some ty) × (b ≡ Some ty)
arrow_typed None b ty h = absurd (cc)
arrow_typed (Some x) None ty h = absurd (cc)
arrow_typed (Some x) (Some y) ty h = let e = alike_types x x y ty h in (ap Some (sym e.1), ap Some (sym e.0 ∙ sym e.1))

-- ---- choices

pub enumerator_below : (choices : List Choice) (c k : ℕ) → IsEnumerator choices c k → k < enumerators choices c
enumerator_below choices c k (choice, is, lt) = rw is lt

few_at : (choices : List Choice) (c : ℕ) (o : Option Choice) → slice_get choices c ≡ o → All IsChoice choices → option_map_or (λ (choice : Choice). length choice.names) o 0 ≤ 256
few_at choices c None is valid = omega arith
few_at choices c (Some choice) is valid =
    (subst IsChoice (get_or_from_slice_get choices c choice choice is) (All-get_or IsChoice choices c choice (slice_get_within choices c choice is) valid)).few

pub few_enumerators : (choices : List Choice) (c : ℕ) → All IsChoice choices → enumerators choices c ≤ 256
few_enumerators choices c valid = few_at choices c (slice_get choices c) refl valid

-- ---- values as bits

-- a value is that of its bits
pub value_of_bits : (parts : Parts) (x : Value) (ty : Ty) → 1 ≤ parts.width → All IsChoice parts.choices → HasType parts x ty → bits_value ty (value_bits parts x ty) ≡ x
value_of_bits parts (value.Truth b) type.Truth wide few h = refl
value_of_bits parts (value.Word z) type.Word wide few h =
    let p = word_residue parts.width z wide h in
    let r : unsigned_abs (int_rem_euclid z (pos (2 ^ parts.width))) ≡ p.0 = ap (λ y. unsigned_abs (int_rem_euclid y (pos (2 ^ parts.width)))) p.2 ∙ residue-signed parts.width p.0 p.1 in
    ap value.Word (ap₂ signed (length-digits parts.width _) (ap (λ y. unsigned (digits parts.width y)) r ∙ unsigned-digits parts.width p.0 p.1) ∙ sym p.2)
value_of_bits parts (value.Choice k) (type.Choice c) wide few h =
    let lt = enumerator_below parts.choices c k h in
    ap value.Choice (unsigned-digits (bits_of parts (type.Choice c)) k (omega (arith, choice_fits (enumerators parts.choices c) (few_enumerators parts.choices c few))))
value_of_bits parts (value.Truth b) type.Word wide few h = absurd h
value_of_bits parts (value.Truth b) (type.Choice c) wide few h = absurd h
value_of_bits parts (value.Word z) type.Truth wide few h = absurd h
value_of_bits parts (value.Word z) (type.Choice c) wide few h = absurd h
value_of_bits parts (value.Choice k) type.Truth wide few h = absurd h
value_of_bits parts (value.Choice k) type.Word wide few h = absurd h

zero_word : (w : ℕ) → IsWord w (pos 0)
zero_word w = let p = pow_pos (w - 1) in (omega (arith, ints), omega (arith, ints))

pub default_of_bits : (parts : Parts) (ty : Ty) → 1 ≤ parts.width → All IsChoice parts.choices → bits_value ty (value_bits parts (default ty) ty) ≡ default ty
default_of_bits parts type.Truth wide few = refl
default_of_bits parts type.Word wide few = value_of_bits parts (default type.Word) type.Word wide few (zero_word parts.width)
default_of_bits parts (type.Choice c) wide few = ap value.Choice (unsigned-digits (bits_of parts (type.Choice c)) 0 (pow_pos (bits_of parts (type.Choice c))))

pub length-value_bits : (parts : Parts) (x : Value) (ty : Ty) → HasType parts x ty → length (value_bits parts x ty) ≡ bits_of parts ty
length-value_bits parts (value.Truth b) type.Truth h = refl
length-value_bits parts (value.Word z) type.Word h = length-digits parts.width _
length-value_bits parts (value.Choice k) (type.Choice c) h = length-digits (bits_of parts (type.Choice c)) k
length-value_bits parts (value.Truth b) type.Word h = absurd h
length-value_bits parts (value.Truth b) (type.Choice c) h = absurd h
length-value_bits parts (value.Word z) type.Truth h = absurd h
length-value_bits parts (value.Word z) (type.Choice c) h = absurd h
length-value_bits parts (value.Choice k) type.Truth h = absurd h
length-value_bits parts (value.Choice k) type.Word h = absurd h

pub length-value_word : (parts : Parts) (x : Value) (ty : Ty) → HasType parts x ty → length (value_word parts x ty) ≡ bits_of parts ty
length-value_word parts (value.Truth b) type.Truth h = refl
length-value_word parts (value.Word z) type.Word h = length-constants _ ∙ length-digits parts.width _
length-value_word parts (value.Choice k) (type.Choice c) h = length-constants _ ∙ length-digits (bits_of parts (type.Choice c)) k
length-value_word parts (value.Truth b) type.Word h = absurd h
length-value_word parts (value.Truth b) (type.Choice c) h = absurd h
length-value_word parts (value.Word z) type.Truth h = absurd h
length-value_word parts (value.Word z) (type.Choice c) h = absurd h
length-value_word parts (value.Choice k) type.Truth h = absurd h
length-value_word parts (value.Choice k) type.Word h = absurd h

pub length-default_word : (parts : Parts) (ty : Ty) → length (value_word parts (default ty) ty) ≡ bits_of parts ty
length-default_word parts type.Truth = refl
length-default_word parts type.Word = length-constants _ ∙ length-digits parts.width _
length-default_word parts (type.Choice c) = length-constants _ ∙ length-digits (bits_of parts (type.Choice c)) 0
