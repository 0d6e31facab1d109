use Rattle.std.proofs.Common.{ap, refl, ◌∙◌}
use Rattle.std.specs.Prelude.{Some}
use Rattle.cov_station.specs.Proofs.{accepts_proof, refuses_step}
use Rattle.cov_station.specs.Steps.{gives, refuses, runs_out}
use Rattle.cov_station.proofs.SuiteSteps.{at_refusal}
use Rattle.cov_station.proofs.proof.check_proof.Goals as goal

pub returns-in-Ok : goal.returns-in-Ok
returns-in-Ok c = gives (accepts_proof c.in-Ok.ensures.accepted) refl

pub returns-in-Err-Refused : goal.returns-in-Err-Refused
returns-in-Err-Refused c =
    let is = c.in-Err-Refused.field-0-is in
    refuses (refuses_step (at_refusal (λ short. absurd (cc (is, short))) c.in-Err-Refused.ensures.refused ∙ ap Some is))

pub returns-in-Err-Memory : goal.returns-in-Err-Memory
returns-in-Err-Memory c = runs_out
