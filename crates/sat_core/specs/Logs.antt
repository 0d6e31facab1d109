-- The log of the clauses that were learnt, and how the search ends.
use Rattle.std.specs.Prelude.{◌≡◌, ◌≤◌, ℕ, false, ◌+◌, ◌<◌, ℤ, List, [], ◌∷◌, ◌++◌, slice_index_or, length, None, Ok}
use Rattle.cnf_form.specs.declared.lit.Lit.{Lit}
use Rattle.cnf_form.specs.Marks.{marks_of}
use Rattle.proof_check.specs.declared.step.ProofStep.{ProofStep}
use Rattle.proof_check.specs.declared.step.ProofStep.TheVariants.{Put, Delete}
use Rattle.proof_check.specs.Check.{State, turn, hints_fault, numbered, start}
use Rattle.proof_check.specs.Spent.{IsResolvent, IsNew}
use Rattle.sat_core.specs.declared.search.Ending.{Ending}
use Rattle.sat_core.specs.declared.search.Ending.TheVariants.{Full, Stuck, Spent}
use Rattle.sat_core.specs.declared.trail.Trail.{Trail}
use Rattle.sat_core.specs.Conflicts.{HasNoDecision}
use Rattle.sat_core.specs.Solving.{entries_of, vars_of, IsSolving}
use Rattle.sat_core.specs.Trail.{lits, clauses_of, AreIdle, IsClosed}

-- the log has one step more, whose clause is the resolvent of its hints' clauses and new to propagation
pub record HasLearnt (vars : ℕ) (formula : List (List Lit)) (old new : List ProofStep)
    : Type 0 where
  pub clause : List Lit
  pub hints : List ℤ
  pub step : new ≡ old ++ Put (length formula + length old + 1) clause hints ∷ []
  pub accepted : hints_fault (numbered (clauses_of formula old)) (marks_of clause) hints ≡ None
  pub resolvent : IsResolvent vars (numbered (clauses_of formula old)) clause hints
  pub fresh : IsNew (clauses_of formula old) clause

-- from the state s and the clauses before, each step is accepted, a resolvent and new, and the last state is u
abbrev pub LogsTo : ℕ → State → List (List Lit) → List ProofStep → State → Type 0
LogsTo vars s earlier [] u = s ≡ u
LogsTo vars s earlier (Put id clause hints ∷ later) u =
    IsResolvent vars s.present clause hints × IsNew earlier clause
    × ((next : State) × (turn s (Put id clause hints) ≡ Ok next)
    × LogsTo vars next (earlier ++ clause ∷ []) later u)
LogsTo vars s earlier (Delete ids ∷ later) u = ⊥

-- what is present behind the log
abbrev pub state_of : List (List Lit) → List ProofStep → State
state_of f log = record { present = numbered (clauses_of f log); last = length f + length log }

-- the log of a search over a formula
abbrev pub IsLogOf : ℕ → List (List Lit) → List ProofStep → Type 0
IsLogOf vars f log = LogsTo vars (start f) f log (state_of f log)

-- the step adds the empty clause behind the log, by hints that lead to a conflict
abbrev pub EndsLog : List (List Lit) → List ProofStep → ProofStep → Type 0
EndsLog f log (Put id clause hints) =
    (id ≡ length f + length log + 1) × (clause ≡ [])
    × (hints_fault (numbered (clauses_of f log)) (λ x. false) hints ≡ None)
EndsLog f log (Delete ids) = ⊥

-- all variables are set, a clause is false with nothing decided, or the budget is spent
abbrev pub Ends : List (List Lit) → ℕ → List ProofStep → Trail → Ending → Type 0
Ends f budget log trail Full =
    AreIdle (lits (entries_of trail)) (clauses_of f log)
    × ((v : ℕ) → v < vars_of trail → slice_index_or trail.places.items v None ≡ None → ⊥)
Ends f budget log trail (Stuck r) =
    IsClosed (clauses_of f log) (lits (entries_of trail)) r × HasNoDecision (entries_of trail)
Ends f budget log trail Spent = length log ≡ budget

-- what holds at the end of the search, and between its turns
pub record IsSearching (f : List (List Lit)) (log : List ProofStep) (trail : Trail)
    (vars budget : ℕ) : Type 0 where
  pub solving : IsSolving f log trail
  pub logged : IsLogOf vars f log
  pub size : vars_of trail ≡ vars
  pub within : length log ≤ budget
