-- What comes behind the first item of an iterator.
use Rattle.std.proofs.Common.{arith, ◌≡◌, ℕ, ◌<◌, ◌↔◌, List, [], ◌∷◌, ◌++◌, length, drop, Option, Some, None, IsSome}
use Rattle.std.specs.Option.{option_to_list}
use Rattle.std.proofs.lemmas.List.{append-nil}

-- with its first item, or none where there is none, taken off a list, what is left is all behind the first
pub behind_first : {A : Type 0} (first : Option A) (all left words : List A) (len : ℕ) → all ≡ option_to_list first ++ left → (IsSome first ↔ (0 < len)) → len ≡ length all → words ≡ [] → words ++ left ≡ drop 1 all
behind_first None [] left words len is some size empty = grind arith
behind_first None (x ∷ all) left words len is some size empty = grind arith
behind_first (Some x) all left words len is some size empty = grind arith

-- where no item comes next, all were taken
pub all_taken : {A : Type 0} (next : Option A) (words rest all : List A) (len : ℕ) → words ++ rest ≡ all → (IsSome next ↔ (0 < len)) → len ≡ length rest → next ≡ None → words ≡ all
all_taken None words [] all len is some size none = grind (arith, append-nil words)
all_taken None words (x ∷ rest) all len is some size none = grind arith
all_taken (Some x) words rest all len is some size none = grind arith
