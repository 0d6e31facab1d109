use Rattle.std.proofs.Common.{rules, ◌∙◌}
use Rattle.cov_station.proofs.ChainSteps.{printed, ran_out, refused, stopped, took, went_on}
use Rattle.cov_station.proofs.SuiteSteps.{tests_for}
use Rattle.cov_station.proofs.commands.run.run_command.Goals as goal

pub returns-in_err-net-clause-answer : goal.returns-in_err-net-clause-answer
returns-in_err-net-clause-answer g c = refused (search rules) (stopped c.in_err-net.ensures.answer)

pub returns-in_err-tests-clause-answer : goal.returns-in_err-tests-clause-answer
returns-in_err-tests-clause-answer g c =
    refused (search rules)
    (went_on c.in_ok-net.ensures.answer λ source s is.
    stopped (tests_for c.in_ok-net.ensures.files (c.network.ensures ∙ is.network) c.in_err-tests.ensures.answer))

pub returns-in_err-run_text-clause-answer : goal.returns-in_err-run_text-clause-answer
returns-in_err-run_text-clause-answer g c = ran_out (search rules)

pub returns-clause-answer : goal.returns-clause-answer
returns-clause-answer g c =
    went_on c.in_ok-net.ensures.answer λ source s is.
    took (tests_for c.in_ok-net.ensures.files (c.network.ensures ∙ is.network) c.in_ok-tests.ensures.answer)
    (printed (rw c.as_slice.ensures at (c.in_ok-run_text.ensures source is)))
