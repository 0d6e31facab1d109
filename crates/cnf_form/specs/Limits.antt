-- How large formulas and texts may be.
use Rattle.std.specs.Prelude.{ℕ}

-- the most variables of a formula
abbrev pub most_vars : ℕ
most_vars = 2000000

-- the most clauses of a formula
abbrev pub most_clauses : ℕ
most_clauses = 200000000

-- the most bytes of a text that is read
abbrev pub most_bytes : ℕ
most_bytes = 268435456
