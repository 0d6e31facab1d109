-- The log of a solver that ran out of its budget: each clause that it adds is accepted, is the resolvent of the clauses
-- that its hints name, and is new to propagation.
use Rattle.std.specs.Prelude.{◌≡◌, ◌≢◌, ◌≤◌, ℕ, ℤ, Bool, true, false, ◌&&◌, ◌⊎◌, cond, List, [], ◌∷◌, ◌++◌, length, Result, Ok, Err}
use Rattle.std.specs.List.{list_all, list_any, AllByRecursion}
use Rattle.cnf_form.specs.declared.lit.Lit.{Lit}
use Rattle.cnf_form.specs.Lines.{is_nil}
use Rattle.cnf_form.specs.Lits.{same, turned, is_in, no_twice, below}
use Rattle.cnf_form.specs.Marks.{with_mark, marks_of}
use Rattle.cnf_form.specs.Shape.{Shape, IsFormula}
use Rattle.proof_check.specs.declared.step.StepKind.{StepKind}
use Rattle.proof_check.specs.declared.step.ProofStep.{ProofStep}
use Rattle.proof_check.specs.declared.step.ProofStep.TheVariants.{Put, Delete}
use Rattle.proof_check.specs.Check.{Clauses, named, open_lits, sole, State, turn, start}

-- ---- a resolvent, with nothing added

abbrev pub has : Lit → Result (List Lit) StepKind → Bool
has x (Ok clause) = is_in x clause
has x (Err kind) = false

-- a literal stands in a clause that one of the hints names
abbrev pub stands_in : Clauses → List ℤ → Lit → Bool
stands_in present hints x = list_any (λ hint. has x (named present hint)) hints

-- what a hint before the last sets true, or its fault
abbrev pub sets_true : (Lit → Bool) → Result (List Lit) StepKind → Result Lit StepKind
sets_true falses (Ok clause) = sole falses (open_lits falses clause)
sets_true falses (Err kind) = Err kind

-- each literal that a hint before the last sets false stands in a clause that a later hint names
abbrev pub is_linked : Clauses → (Lit → Bool) → List ℤ → Bool
is_linked present falses [] = true
is_linked present falses (hint ∷ later) =
    cond (is_nil later) true
    (elim (sets_true falses (named present hint)) [
      | Err kind ↦ true
      | Ok l ↦ stands_in present later (turned l) && is_linked present (with_mark (turned l) falses) later
    ])

-- the clause has literals of the formula's variables alone, each of which stands in a clause that a hint names
pub record IsResolvent (vars : ℕ) (present : Clauses) (clause : List Lit) (hints : List ℤ) : Type 0 where
  pub inside : below vars clause ≡ true
  pub stand : list_all (stands_in present hints) clause ≡ true
  pub linked : is_linked present (marks_of clause) hints ≡ true

-- ---- new to propagation

-- propagation from a set of literals does nothing at this clause: one of its literals is in the set, or the negations of
-- two aren't
abbrev pub IsIdle : (Lit → Bool) → List Lit → Type 0
IsIdle set clause = (list_any set clause ≡ true) ⊎ (2 ≤ length (open_lits (λ x. set (turned x)) clause))

-- Propagation from the negations of the clause's other literals leads to a set in which neither this literal nor its
-- negation is, nor any literal beside its negation, and which does nothing at the earlier clauses.
pub record IsNew (earlier : List (List Lit)) (clause : List Lit) : Type 0 where
  pub lit : Lit
  pub set : Lit → Bool
  pub member : is_in lit clause ≡ true
  pub consistent : (x : Lit) → set x ≡ true → set (turned x) ≡ false
  pub others : (x : Lit) → is_in x clause ≡ true → same x lit ≡ false → set (turned x) ≡ true
  pub not_true : set lit ≡ false
  pub not_false : set (turned lit) ≡ false
  pub idle : AllByRecursion (IsIdle set) earlier

-- ---- the log

-- each step adds a clause, which is accepted behind the steps before, a resolvent and new
abbrev pub IsLog : ℕ → State → List (List Lit) → List ProofStep → Type 0
IsLog vars s earlier [] = Unit {0}
IsLog vars s earlier (Put id clause hints ∷ later) =
    IsResolvent vars s.present clause hints
    × IsNew earlier clause
    × ((next : State) × (turn s (Put id clause hints) ≡ Ok next) × IsLog vars next (earlier ++ clause ∷ []) later)
IsLog vars s earlier (Delete ids ∷ later) = ⊥

-- a log that adds as many clauses as the budget allows
abbrev pub SpentLog : Shape → ℕ → List ProofStep → Type 0
SpentLog f budget log = (length log ≡ budget) × IsLog f.vars (start f.clauses) f.clauses log

-- ---- what such a log never adds

-- each literal of the old clause is in the new one
abbrev pub is_within : List Lit → List Lit → Bool
is_within old new = list_all (λ x. is_in x new) old

-- no clause that is added is empty or has all literals of a clause before it
abbrev pub AddsNew : List (List Lit) → List ProofStep → Type 0
AddsNew earlier [] = Unit {0}
AddsNew earlier (Put id clause hints ∷ later) =
    (clause ≢ [])
    × AllByRecursion (λ old. is_within old clause ≡ false) earlier
    × AddsNew (earlier ++ clause ∷ []) later
AddsNew earlier (Delete ids ∷ later) = AddsNew earlier later

-- no literal stands twice in a clause that the step adds
abbrev pub IsOnce : ProofStep → Type 0
IsOnce (Put id clause hints) = no_twice clause ≡ true
IsOnce (Delete ids) = Unit {0}

abbrev pub SpentLogAddsNew : Type 0
SpentLogAddsNew =
    (f : Shape) (budget : ℕ) (log : List ProofStep) → IsFormula f → AllByRecursion IsOnce log → SpentLog f budget log
    → AddsNew f.clauses log
