-- The first instant at which an assertion fails, and how it is printed.
use Rattle.std.specs.Prelude.{ℕ, Bool, List, [], ◌∷◌, ◌++◌, not, codes, decimal, position}
use Rattle.std.specs.Prelude.{Option, Some, None}

-- the first instant at which an assertion fails, if one does
abbrev pub first_failure : List Bool → Option ℕ
first_failure ok = position not ok

abbrev pub failure_line : Option ℕ → List ℕ
failure_line None = []
failure_line (Some t) = codes "assertion fails at " ++ (decimal t ++ 10 ∷ [])
