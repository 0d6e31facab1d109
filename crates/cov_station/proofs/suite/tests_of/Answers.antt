use Rattle.std.proofs.Common.{ap, refl, ◌∙◌}
use Rattle.std.specs.Prelude.{Err}
use Rattle.cov_station.specs.Steps.{gives, refuses, runs_out}
use Rattle.cov_station.specs.Suites.{has_many_instants, has_many_tests, holds_tests, is_no_suite}
use Rattle.cov_station.proofs.SuiteSteps.{at_fault}
use Rattle.cov_station.proofs.suite.tests_of.Goals as goal

pub returns-in-Ok-clause-answer : goal.returns-in-Ok-clause-answer
returns-in-Ok-clause-answer c = gives (holds_tests c.in-Ok.ensures.ok) refl

pub returns-in-Err-Bad-clause-answer : goal.returns-in-Err-Bad-clause-answer
returns-in-Err-Bad-clause-answer c =
    let is = c.in-Err-Bad.field-0-is in
    refuses (is_no_suite (at_fault (λ short. absurd (cc (is, short))) c.in-Err-Bad.ensures.err ∙ ap Err is))

pub returns-in-Err-Tests-clause-answer : goal.returns-in-Err-Tests-clause-answer
returns-in-Err-Tests-clause-answer c =
    let is = c.in-Err-Tests.field-0-is in
    refuses (has_many_tests (at_fault (λ short. absurd (cc (is, short))) c.in-Err-Tests.ensures.err ∙ ap Err is))

pub returns-in-Err-Instants-clause-answer : goal.returns-in-Err-Instants-clause-answer
returns-in-Err-Instants-clause-answer c =
    let is = c.in-Err-Instants.field-0-is in
    refuses (has_many_instants (at_fault (λ short. absurd (cc (is, short))) c.in-Err-Instants.ensures.err ∙ ap Err is))

pub returns-in-Err-Memory-clause-answer : goal.returns-in-Err-Memory-clause-answer
returns-in-Err-Memory-clause-answer c = runs_out
