-- The values that fields name.
use Rattle.std.specs.Prelude.{ℕ, pos, ◌-ℤ◌, suc, ◌+◌, ◌-◌, ◌*◌, ◌^◌, Bool, true, false, ◌&&◌, ◌||◌, ◌==◌, nat_le, nat_lt, cond, List, [], ◌∷◌, codes, Option, Some, None, slice_get}
use Rattle.std.specs.List.{list_all}
use Rattle.std.specs.Str.{bytes_eq}
use Rattle.op_network.specs.declared.edge.Choice.{Choice}
use Rattle.op_network.specs.declared.edge.Parts.{Parts}
use Rattle.op_network.specs.declared.value.Ty.{Ty}
use Rattle.op_network.specs.declared.value.Ty.TheVariants as type
use Rattle.op_network.specs.declared.value.Value.{Value}
use Rattle.op_network.specs.declared.value.Value.TheVariants.{Truth, Word, Choice as Enumerator}
use Rattle.suite_file.specs.declared.limits.TheConstants.{MOST_ABSOLUTE}
use Rattle.suite_file.specs.Records.{Text}

-- `0`, `1`, `false` or `true`
abbrev pub truth_of : Text → Option Value
truth_of text =
    cond (bytes_eq text (codes "0") || bytes_eq text (codes "false")) (Some (Truth false))
    (cond (bytes_eq text (codes "1") || bytes_eq text (codes "true")) (Some (Truth true)) None)

abbrev pub is_digit : ℕ → Bool
is_digit b = nat_le 48 b && nat_le b 57

-- one or more digits
abbrev pub is_numeral : Text → Bool
is_numeral [] = false
is_numeral (d ∷ digits) = list_all is_digit (d ∷ digits)

-- the number of decimal digits that follow those of n
abbrev pub number_from : ℕ → Text → ℕ
number_from n [] = n
number_from n (d ∷ digits) = number_from (n * 10 + (d - 48)) digits

abbrev pub number : Text → ℕ
number digits = number_from 0 digits

-- the number behind one more digit, if it may be the absolute value of a word
abbrev pub next_number : ℕ → ℕ → Option ℕ
next_number n d =
    cond (is_digit d && nat_le (n * 10 + (d - 48)) MOST_ABSOLUTE) (Some (n * 10 + (d - 48))) None

-- the number of one or more digits, if it may be the absolute value of a word
abbrev pub numeral : Text → Option ℕ
numeral digits =
    cond (is_numeral digits && nat_le (number digits) MOST_ABSOLUTE) (Some (number digits)) None

-- a minus and digits of at most so much, or digits of less
abbrev pub word_below : ℕ → Text → Option Value
word_below half [] = None
word_below half (b ∷ text) =
    cond (b == 45)
    (cond (is_numeral text && nat_le (number text) half)
    (Some (Word (pos 0 -ℤ pos (number text)))) None)
    (cond (is_numeral (b ∷ text) && nat_lt (number (b ∷ text)) half)
    (Some (Word (pos (number (b ∷ text))))) None)

-- an optional minus and one or more digits, in the range of the width
abbrev pub word_of : ℕ → Text → Option Value
word_of width text = word_below (2 ^ (width - 1)) text

-- the place of a name behind k names
abbrev pub enumerator_from : ℕ → List Text → Text → Option Value
enumerator_from k [] text = None
enumerator_from k (name ∷ names) text =
    cond (bytes_eq text name) (Some (Enumerator k)) (enumerator_from (suc k) names text)

-- the enumerator of that name
abbrev pub enumerator_of : Option Choice → Text → Option Value
enumerator_of None text = None
enumerator_of (Some choice) text = enumerator_from 0 choice.names text

-- the value of a type that a field names
abbrev pub value_of : Parts → Ty → Text → Option Value
value_of parts type.Truth text = truth_of text
value_of parts type.Word text = word_of parts.width text
value_of parts (type.Choice c) text = enumerator_of (slice_get parts.choices c) text
