-- The lines and words of a text.
use Rattle.std.specs.Prelude.{ℕ, ◌-◌, Bool, true, false, not, ◌&&◌, ◌||◌, ◌==◌, cond, List, [], ◌∷◌, ◌++◌, length, map, take, get_or, Result, Ok, Err}
use Rattle.std.specs.List.{filter, slice_split}

abbrev pub Text : Type 0
Text = List ℕ

abbrev pub is_nil : {A : Type 0} → List A → Bool
is_nil [] = true
is_nil (x ∷ xs) = false

abbrev pub is_feed : ℕ → Bool
is_feed b = b == 10

-- a space or a tab
abbrev pub is_blank : ℕ → Bool
is_blank b = (b == 32) || (b == 9)

-- without a carriage return at the end
abbrev pub without_return : Text → Text
without_return line =
    cond (get_or line (length line - 1) 0 == 13) (take (length line - 1) line) line

-- without the last part, where it is empty
abbrev pub without_empty_end : List Text → List Text
without_empty_end [] = []
without_empty_end (part ∷ parts) =
    cond (is_nil part && is_nil parts) [] (part ∷ without_empty_end parts)

-- what stands before line feeds, and what follows the last one where it isn't empty
abbrev pub lines : Text → List Text
lines text = map without_return (without_empty_end (slice_split is_feed text))

-- the parts between spaces and tabs that aren't empty
abbrev pub words : Text → List Text
words line = filter (λ part. not (is_nil part)) (slice_split is_blank line)

-- a line that begins with `c`
abbrev pub is_comment : Text → Bool
is_comment [] = false
is_comment (b ∷ line) = b == 99

-- a comment, or a line without words
abbrev pub is_skipped : Text → Bool
is_skipped line = is_comment line || is_nil (words line)

-- what follows from a value, or its fault
abbrev pub and_then : {A B E : Type 0} → (A → Result B E) → Result A E → Result B E
and_then next (Ok a) = next a
and_then next (Err e) = Err e

-- words, apart by one space
abbrev pub unwords : List Text → Text
unwords [] = []
unwords (word ∷ []) = word
unwords (word ∷ next ∷ later) = word ++ 32 ∷ unwords (next ∷ later)

-- lines, each with a line feed behind it
abbrev pub unlines : List Text → Text
unlines [] = []
unlines (line ∷ later) = line ++ 10 ∷ unlines later
