use Rattle.std.proofs.Common.{rules, ◌∙◌}
use Rattle.cov_station.proofs.ChainSteps.{printed, ran_out, refused, stopped, took}
use Rattle.cov_station.proofs.QuietSteps.{check_quiet, quiet_refusal}
use Rattle.cov_station.proofs.SuiteSteps.{proof_for}
use Rattle.cov_station.proofs.commands.verify.verify_command.Goals as goal

pub returns-in_err-formula-clause-answer : goal.returns-in_err-formula-clause-answer
returns-in_err-formula-clause-answer g c = refused (search rules) (stopped c.in_err-formula.ensures.answer)

pub returns-in_err-steps-clause-answer : goal.returns-in_err-steps-clause-answer
returns-in_err-steps-clause-answer g c =
    refused (search rules)
    (took c.in_ok-formula.ensures.answer
    (stopped (proof_for c.in_ok-formula.ensures.files c.in_err-steps.ensures.answer)))

pub returns-in_err-check_proof-clause-answer : goal.returns-in_err-check_proof-clause-answer
returns-in_err-check_proof-clause-answer g c =
    refused (search rules)
    (took c.in_ok-formula.ensures.answer
    (took (proof_for c.in_ok-formula.ensures.files c.in_ok-steps.ensures.answer)
    (stopped c.in_err-check_proof.ensures)))

pub returns-in_err-check_proof-clause-counts : goal.returns-in_err-check_proof-clause-counts
returns-in_err-check_proof-clause-counts g c =
    quiet_refusal (check_quiet _ _) (search rules) (c.in_ok-steps.ensures.counts ∙ c.in_ok-formula.ensures.counts) c.in_err-check_proof.ensures

pub returns-in_err-acceptance-clause-answer : goal.returns-in_err-acceptance-clause-answer
returns-in_err-acceptance-clause-answer g c = ran_out (search rules)

pub returns-clause-answer : goal.returns-clause-answer
returns-clause-answer g c =
    took c.in_ok-formula.ensures.answer
    (took (proof_for c.in_ok-formula.ensures.files c.in_ok-steps.ensures.answer)
    (took c.in_ok-check_proof.ensures
    (printed c.in_ok-acceptance.ensures)))
