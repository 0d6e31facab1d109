use Rattle.std.proofs.Common.{rules, ◌∙◌}
use Rattle.cov_station.proofs.ChainSteps.{printed, ran_out, refused, stopped, took, went_on}
use Rattle.cov_station.proofs.QuietSteps.{plan_quiet, quiet_refusal}
use Rattle.cov_station.proofs.SuiteSteps.{plan_for, planned, tests_for}
use Rattle.cov_station.proofs.commands.score.score_command.Goals as goal

pub returns-in_err-net-clause-answer : goal.returns-in_err-net-clause-answer
returns-in_err-net-clause-answer g c = refused (search rules) (stopped c.in_err-net.ensures.answer)

pub returns-in_err-plan-clause-answer : goal.returns-in_err-plan-clause-answer
returns-in_err-plan-clause-answer g c =
    refused (search rules)
    (went_on c.in_ok-net.ensures.answer λ source s is.
    stopped (plan_for (c.network.ensures ∙ is.network) c.in_err-plan.ensures))

pub returns-in_err-plan-clause-counts : goal.returns-in_err-plan-clause-counts
returns-in_err-plan-clause-counts g c = quiet_refusal (plan_quiet _ _) (search rules) c.in_ok-net.ensures.counts c.in_err-plan.ensures

pub returns-in_err-tests-clause-answer : goal.returns-in_err-tests-clause-answer
returns-in_err-tests-clause-answer g c =
    refused (search rules)
    (went_on c.in_ok-net.ensures.answer λ source s is.
    took (plan_for (c.network.ensures ∙ is.network) c.in_ok-plan.ensures)
    (stopped (tests_for c.in_ok-net.ensures.files (c.network-2.ensures ∙ is.network) c.in_err-tests.ensures.answer)))

pub score_text-requires-clause-plan : goal.score_text-requires-clause-plan
score_text-requires-clause-plan g c = planned c.network.ensures c.in_ok-plan.ensures

pub returns-in_err-score_text-clause-answer : goal.returns-in_err-score_text-clause-answer
returns-in_err-score_text-clause-answer g c = ran_out (search rules)

pub returns-clause-answer : goal.returns-clause-answer
returns-clause-answer g c =
    went_on c.in_ok-net.ensures.answer λ source s is.
    took (plan_for (c.network.ensures ∙ is.network) c.in_ok-plan.ensures)
    (took (tests_for c.in_ok-net.ensures.files (c.network-2.ensures ∙ is.network) c.in_ok-tests.ensures.answer)
    (printed (c.in_ok-score_text.ensures source is)))
