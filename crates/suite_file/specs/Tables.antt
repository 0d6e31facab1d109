-- Tables of names with numbers.
use Rattle.std.specs.Prelude.{ℕ, cond, List, [], ◌∷◌, Option, Some, None}
use Rattle.std.specs.Str.{bytes_eq}
use Rattle.suite_file.specs.Records.{Text}

abbrev pub Numbering : Type 0
Numbering = List (Text × ℕ)

-- the number of a name, if it has one
abbrev pub number_of : Numbering → Text → Option ℕ
number_of [] name = None
number_of (entry ∷ entries) name =
    cond (bytes_eq name entry.0) (Some entry.1) (number_of entries name)
