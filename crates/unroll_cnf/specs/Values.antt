-- Values as words of constant literals, and what value a word has.
use Rattle.std.specs.Prelude.{ℕ, zero, suc, ◌-◌, ◌/◌, ◌%◌, ◌^◌, nat_eq, Bool, false, if◌then◌else◌, List, [], ◌∷◌, length, map, pos}
use Rattle.std.specs.List.{range_with_len}
use Rattle.std.specs.Int.{int_rem_euclid}
use Rattle.std.specs.Int.RustNames.{unsigned_abs}
use Rattle.cnf_form.specs.declared.lit.Lit.{Lit}
use Rattle.cnf_form.specs.Lits.{turned}
use Rattle.op_network.specs.declared.edge.Parts.{Parts}
use Rattle.op_network.specs.declared.value.Ty.{Ty}
use Rattle.op_network.specs.declared.value.Ty.TheVariants as type
use Rattle.op_network.specs.declared.value.Value.{Value}
use Rattle.op_network.specs.declared.value.Value.TheVariants.{Truth, Word, Choice}
use Rattle.bit_blast.specs.Circuit.{Entry, Require, yes, no}
use Rattle.bit_blast.specs.Numbers.{unsigned, signed}
use Rattle.unroll_cnf.specs.Sizes.{bits_of, enumerators}

-- the first bits of a number, least first
abbrev pub digits : ℕ → ℕ → List Bool
digits zero r = []
digits (suc w) r = nat_eq (r % 2) 1 ∷ digits w (r / 2)

-- the bits of a value of a type
abbrev pub value_bits : Parts → Value → Ty → List Bool
value_bits parts (Truth b) ty = b ∷ []
value_bits parts (Word z) ty =
    digits parts.width (unsigned_abs (int_rem_euclid z (pos (2 ^ parts.width))))
value_bits parts (Choice k) ty = digits (bits_of parts ty) k

-- the literal that is true, or false, in every model
abbrev pub constant : Bool → Lit
constant b = if b then yes 0 else no 0

-- the word of a value of a type
abbrev pub value_word : Parts → Value → Ty → List Lit
value_word parts v ty = map constant (value_bits parts v ty)

-- the literal that is false where the one has this truth
abbrev pub against : Bool → Lit → Lit
against b l = if b then turned l else l

-- the clause that is false where a word has these bits, and only there
abbrev pub excluding : List Lit → List Bool → List Lit
excluding (l ∷ a) (b ∷ bs) = against b l ∷ excluding a bs
excluding _ _ = []

-- the clauses that exclude so many numbers of a word of b bits, from one on
abbrev pub exclusions : List Lit → ℕ → ℕ → ℕ → List Entry
exclusions a b from many = map (λ x. Require (excluding a (digits b x))) (range_with_len from many)

-- for a choice, the clauses that exclude the numbers of no enumerator
abbrev pub excluded : Parts → Ty → List Lit → List Entry
excluded parts type.Truth a = []
excluded parts type.Word a = []
excluded parts (type.Choice c) a =
    let n = enumerators parts.choices c in
    let b = bits_of parts (type.Choice c) in
    exclusions a b n (2 ^ b - n)

-- ---- the value of bits

abbrev pub first_bit : List Bool → Bool
first_bit [] = false
first_bit (b ∷ bs) = b

-- the value of a type that these bits are
abbrev pub bits_value : Ty → List Bool → Value
bits_value type.Truth bs = Truth (first_bit bs)
bits_value type.Word bs = Word (signed (length bs) (unsigned bs))
bits_value (type.Choice c) bs = Choice (unsigned bs)
