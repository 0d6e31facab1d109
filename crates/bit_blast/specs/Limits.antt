-- How many clauses a formula under construction may have.
use Rattle.std.specs.Prelude.{ℕ}

-- the most clauses of which none is counted with a variable
abbrev pub most_required : ℕ
most_required = 100000000

-- the most clauses that are counted with one variable
abbrev pub clauses_per_var : ℕ
clauses_per_var = 16
