-- What the solver's answers carry.
use Rattle.std.specs.Prelude.{◌≡◌, ◌≤◌, ℕ, Bool, false, IsTrue, List, [], ◌∷◌, ◌++◌, length, slice_index_or}
use Rattle.proof_check.specs.declared.step.ProofStep.{ProofStep}
use Rattle.cnf_form.specs.Shape.{Shape, Satisfies}
use Rattle.proof_check.specs.Check.{Accepted, is_end, start}
use Rattle.proof_check.specs.Spent.{IsLog, SpentLog}
use Rattle.sat_core.specs.declared.verdict.Verdict.{Verdict}
use Rattle.sat_core.specs.declared.verdict.Verdict.TheVariants.{Found, Refuted, Spent}

-- one bit per variable, which satisfy the formula
pub record IsModel (f : Shape) (bits : List Bool) : Type 0 where
  pub whole : length bits ≡ f.vars
  pub satisfies : Satisfies (λ var. slice_index_or bits var false) f

-- The proof is accepted. It adds at most as many clauses as the budget allows, each of which a spent log may add too,
-- and the empty clause behind them.
pub record IsRefutation (f : Shape) (budget : ℕ) (proof : List ProofStep) : Type 0 where
  pub accepted : Accepted f.clauses proof
  pub log : List ProofStep
  pub last : ProofStep
  pub whole : proof ≡ log ++ last ∷ []
  pub few : length log ≤ budget
  pub added : IsLog f.vars (start f.clauses) f.clauses log
  pub ends : IsTrue (is_end last)

-- an answer carries what shows it
abbrev pub IsVerdict : Shape → ℕ → Verdict → Type 0
IsVerdict f budget (Found bits) = IsModel f bits
IsVerdict f budget (Refuted proof) = IsRefutation f budget proof
IsVerdict f budget (Spent log) = SpentLog f budget log
