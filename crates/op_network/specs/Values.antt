-- Values: what they are read as, and words of a width.
use Rattle.std.specs.Prelude.{◌≡◌, ℕ, ◌-◌, ◌*◌, ◌^◌, Bool, false, if◌then◌else◌, not, nat_eq, ℤ, pos, neg_ℤ, ◌+ℤ◌, ◌-ℤ◌, ◌≤ℤ◌, ◌<ℤ◌}
use Rattle.std.specs.Int.{int_rem_euclid}
use Rattle.std.specs.Ordering.{int_eq}
use Rattle.op_network.specs.declared.value.Ty.{Ty}
use Rattle.op_network.specs.declared.value.Ty.TheVariants as type
use Rattle.op_network.specs.declared.value.Value.{Value}
use Rattle.op_network.specs.declared.value.Value.TheVariants.{Truth, Word, Choice}

-- the default of a type: false, 0, or the first enumerator
abbrev pub default : Ty → Value
default type.Truth = Truth false
default type.Word = Word (pos 0)
default (type.Choice c) = Choice 0

-- whether a value is the truth `true`
abbrev pub is_true : Value → Bool
is_true (Truth b) = b
is_true (Word w) = false
is_true (Choice k) = false

-- the number of a word
abbrev pub number : Value → ℤ
number (Truth b) = pos 0
number (Word w) = w
number (Choice k) = pos 0

-- exactly one of the two
abbrev pub xor : Bool → Bool → Bool
xor a b = if a then not b else b

-- whether two values are one
abbrev pub is_same : Value → Value → Bool
is_same (Truth a) (Truth b) = not (xor a b)
is_same (Word v) (Word w) = int_eq v w
is_same (Choice j) (Choice k) = nat_eq j k
is_same _ _ = false

-- a word in the range of a width W: -2^(W-1) to 2^(W-1) - 1
abbrev pub IsWord : ℕ → ℤ → Type 0
IsWord width w = (neg_ℤ (pos (2 ^ (width - 1))) ≤ℤ w) × (w <ℤ pos (2 ^ (width - 1)))

-- the word of a width W that is x modulo 2^W
unfoldable pub wrap : ℕ → ℤ → ℤ
wrap width x = int_rem_euclid (x +ℤ pos (2 ^ (width - 1))) (pos (2 ^ width)) -ℤ pos (2 ^ (width - 1))

-- x and y differ by a multiple of n
abbrev pub AreCongruent : ℕ → ℤ → ℤ → Type 0
AreCongruent n x y = (j : ℕ) × (k : ℕ) × (x +ℤ pos (j * n) ≡ y +ℤ pos (k * n))
