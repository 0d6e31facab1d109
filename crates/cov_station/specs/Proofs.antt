-- Proofs: what a file in LRAT holds, and whether it is accepted.
use Rattle.std.specs.Prelude.{◌≡◌, ℕ, List, [], ◌∷◌, ◌++◌, codes, Option, Some, Result, Ok, Err}
use Rattle.cov_base.specs.Files.{Files}
use Rattle.cnf_form.specs.Lines.{Text}
use Rattle.cnf_form.specs.Shape.{Shape}
use Rattle.lus_types.specs.Names.{Name}
use Rattle.proof_check.specs.declared.lrat.LratFault.TheVariants as fault
use Rattle.proof_check.specs.declared.lrat.LratKind.{LratKind}
use Rattle.proof_check.specs.declared.step.ProofStep.{ProofStep}
use Rattle.proof_check.specs.declared.step.StepKind.{StepKind}
use Rattle.proof_check.specs.declared.step.VerifyFault.TheVariants.{Refused}
use Rattle.proof_check.specs.Check.{Accepted, first_refusal}
use Rattle.proof_check.specs.Lrat.{proof_of}
use Rattle.cov_station.specs.declared.limits.TheConstants.{MOST_FILE_BYTES}
use Rattle.cov_station.specs.declared.refusal.Refusal.{Refusal}
use Rattle.cov_station.specs.declared.refusal.Refusal.TheVariants.{Proof, RefusedStep}
use Rattle.cov_station.specs.Files.{Reads}
use Rattle.cov_station.specs.Steps.{Step, ◌>>=◌}

-- the text is a proof
pub data HoldsProof (text : Text) : Result (List ProofStep) Refusal → Type 0 where
  holds_proof : {steps : List ProofStep} → proof_of text ≡ Ok steps → HoldsProof text (Ok steps)
  is_no_proof : {line : ℕ} {kind : LratKind} → proof_of text ≡ Err (fault.Bad line kind) → HoldsProof text (Err (Proof kind line))

-- the proof that a file holds
abbrev pub ReadsProof : Option Files → Name → Step (List ProofStep)
ReadsProof files name = do
  text ← Reads files name MOST_FILE_BYTES
  HoldsProof text

-- the proof that no assignment satisfies the formula is accepted
pub data AcceptsProof (formula : Shape) (steps : List ProofStep) : Result (Unit {0}) Refusal → Type 0 where
  accepts_proof : Accepted formula.clauses steps → AcceptsProof formula steps (Ok tt)
  refuses_step : {number : ℕ} {kind : StepKind} → first_refusal formula.clauses steps ≡ Some (Refused number kind)
      → AcceptsProof formula steps (Err (RefusedStep kind number))

-- what is printed of an accepted proof
abbrev pub acceptance : List ℕ
acceptance = codes "accepted" ++ 10 ∷ []
