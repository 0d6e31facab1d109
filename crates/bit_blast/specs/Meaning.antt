-- What is kept of the meaning of a formula that gets more variables and clauses.
use Rattle.std.specs.Prelude.{◌≡◌, ℕ, ◌+◌, ◌*◌, ◌<◌, ◌≤◌, Bool, not, length, IsTrue}
use Rattle.std.specs.Bool.{beq}
use Rattle.cnf_form.specs.Limits.{most_vars}
use Rattle.cnf_form.specs.Lits.{below}
use Rattle.cnf_form.specs.Shape.{Shape, Satisfies}
use Rattle.bit_blast.specs.Circuit.{Entry, Free, And, Or, Xor, Ite, Require}
use Rattle.bit_blast.specs.Limits.{clauses_per_var}

-- whether just one of two truths holds
abbrev pub differ : Bool → Bool → Bool
differ a b = not (beq a b)

-- the literals of an entry are of variables below n
abbrev pub ReadsBelow : ℕ → Entry → Type 0
ReadsBelow n Free = Unit {0}
ReadsBelow n (And a b) = (a.var < n) × (b.var < n)
ReadsBelow n (Or a b) = (a.var < n) × (b.var < n)
ReadsBelow n (Xor a b) = (a.var < n) × (b.var < n)
ReadsBelow n (Ite c a b) = (c.var < n) × (a.var < n) × (b.var < n)
ReadsBelow n (Require c) = IsTrue (below n c)

-- two assignments agree below n
abbrev pub Agree : ℕ → (ℕ → Bool) → (ℕ → Bool) → Type 0
Agree n v w = (k : ℕ) → k < n → v k ≡ w k

-- A formula g says no more of the variables of f: what satisfies g satisfies f, and each assignment
-- that satisfies f extends to one that satisfies g. It has at most 16 clauses more for each variable
-- that it has more, and no more than 2,000,000 variables if f has no more.
pub record Extends (f g : Shape) : Type 0 where
  pub vars : f.vars ≤ g.vars
  pub few : length g.clauses + clauses_per_var * f.vars ≤ length f.clauses + clauses_per_var * g.vars
  pub room : f.vars ≤ most_vars → g.vars ≤ most_vars
  pub front : (v : ℕ → Bool) → Satisfies v g → Satisfies v f
  pub model : (v : ℕ → Bool) → Satisfies v f → (w : ℕ → Bool) × Agree f.vars v w × Satisfies w g
