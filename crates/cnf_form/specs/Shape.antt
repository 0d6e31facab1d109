-- What a formula is: how many variables, and its clauses.
use Rattle.std.specs.Prelude.{ℕ, ◌≤◌, Bool, IsTrue, List, [], ◌∷◌, ◌++◌, length}
use Rattle.std.specs.List.{list_all}
use Rattle.cnf_form.specs.declared.lit.Lit.{Lit}
use Rattle.cnf_form.specs.Limits.{most_vars, most_clauses}
use Rattle.cnf_form.specs.Lits.{no_twice, all_below, satisfies}

pub record Shape : Type 0 where
  pub vars : ℕ
  pub clauses : List (List Lit)

abbrev pub shape : ℕ → List (List Lit) → Shape
shape vars clauses = record { vars = vars; clauses = clauses }

-- a formula with one clause more
abbrev pub with_clause : List Lit → Shape → Shape
with_clause clause f = shape f.vars (f.clauses ++ clause ∷ [])

-- no literal stands twice in a clause, each is of one of the variables, and there are few enough of both
abbrev pub IsFormula : Shape → Type 0
IsFormula f =
    (f.vars ≤ most_vars) × (length f.clauses ≤ most_clauses)
    × IsTrue (all_below f.vars f.clauses) × IsTrue (list_all no_twice f.clauses)

-- in this assignment each clause of the formula has a true literal
abbrev pub Satisfies : (ℕ → Bool) → Shape → Type 0
Satisfies v f = IsTrue (satisfies v f.clauses)

-- no assignment satisfies the formula
abbrev pub IsUnsatisfiable : Shape → Type 0
IsUnsatisfiable f = (v : ℕ → Bool) → Satisfies v f → ⊥
