-- Literals and clauses, and what it means that an assignment satisfies them.
use Rattle.std.specs.Prelude.{ℕ, eqb, ltb, Bool, true, not, ◌&&◌, cond, List, [], ◌∷◌, ◌++◌}
use Rattle.std.specs.Bool.{beq}
use Rattle.std.specs.List.{list_all, list_any}
use Rattle.cnf_form.specs.declared.lit.Lit.{Lit}

-- two literals are one
unfoldable pub same : Lit → Lit → Bool
same a b = eqb a.var b.var && beq a.positive b.positive

-- the literal of the same variable that is true where this one is false
unfoldable pub turned : Lit → Lit
turned a = record { var = a.var; positive = not a.positive }

-- a literal is among these
abbrev pub is_in : Lit → List Lit → Bool
is_in x lits = list_any (same x) lits

-- literals with one more at the end, where it isn't among them
abbrev pub with_lit : Lit → List Lit → List Lit
with_lit l lits = cond (is_in l lits) lits (lits ++ l ∷ [])

-- no literal stands twice
abbrev pub no_twice : List Lit → Bool
no_twice [] = true
no_twice (l ∷ ls) = not (is_in l ls) && no_twice ls

-- each literal is of a variable below n
abbrev pub below : ℕ → List Lit → Bool
below n clause = list_all (λ l. ltb l.var n) clause

-- each literal of each clause is
abbrev pub all_below : ℕ → List (List Lit) → Bool
all_below n clauses = list_all (below n) clauses

-- ---- truth

-- a literal under an assignment, which gives each variable a truth
unfoldable pub truth : (ℕ → Bool) → Lit → Bool
truth v l = beq (v l.var) l.positive

-- a clause has a true literal
abbrev pub holds : (ℕ → Bool) → List Lit → Bool
holds v clause = list_any (truth v) clause

-- each clause has one
abbrev pub satisfies : (ℕ → Bool) → List (List Lit) → Bool
satisfies v clauses = list_all (holds v) clauses
