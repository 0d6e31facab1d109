use Rattle.std.proofs.Common.{ap, arith, refl, ◌∙◌}
use Rattle.std.specs.Prelude.{Err}
use Rattle.cov_station.specs.Proofs.{holds_proof, is_no_proof}
use Rattle.cov_station.specs.Steps.{gives, refuses, runs_out}
use Rattle.cov_station.proofs.FormulaTexts.{proof_fits}
use Rattle.cov_station.proofs.SuiteSteps.{at_fault}
use Rattle.cov_station.proofs.proof.proof_in.Goals as goal

pub returns-in-Ok-clause-answer : goal.returns-in-Ok-clause-answer
returns-in-Ok-clause-answer c = gives (holds_proof c.in-Ok.ensures.ok) refl

pub returns-in-Ok-clause-few : goal.returns-in-Ok-clause-few
returns-in-Ok-clause-few c = let few = proof_fits c.args.text.now c.in-Ok.steps c.in-Ok.ensures.ok in omega arith

pub returns-in-Err-Bad-clause-answer : goal.returns-in-Err-Bad-clause-answer
returns-in-Err-Bad-clause-answer c =
    let is = c.in-Err-Bad.field-0-is in
    refuses (is_no_proof (at_fault (λ short. absurd (cc (is, short))) c.in-Err-Bad.ensures.err ∙ ap Err is))

pub returns-in-Err-Memory-clause-answer : goal.returns-in-Err-Memory-clause-answer
returns-in-Err-Memory-clause-answer c = runs_out
