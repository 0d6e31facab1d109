-- Rows of bits, and the words that hold them.
use Rattle.std.specs.Prelude.{ℕ, ◌/◌, ◌%◌, Bool, ◌||◌, List, map, zip, nat_eq, slice_index}
use Rattle.std.specs.Int.{bit_at}
use Rattle.std.specs.List.{range_with_len}

-- whether bit i is 1, with 64 bits in a word and the lowest first
unfoldable pub bit_of : List ℕ → ℕ → Bool
bit_of words i = nat_eq (bit_at (slice_index words (i / 64)) (i % 64)) 1

-- the first bits of some words
abbrev pub row_of : List ℕ → ℕ → List Bool
row_of words bits = map (bit_of words) (range_with_len 0 bits)

-- at each place, whether the one row or the other is true there
abbrev pub either : List Bool → List Bool → List Bool
either row other = map (λ (pair : Bool × Bool). pair.0 || pair.1) (zip row other)
