use Rattle.std.proofs.Common.{rules}
use Rattle.cov_station.proofs.ChainSteps.{refused, stopped, took}
use Rattle.cov_station.proofs.QuietSteps.{quiet, tests_quiet}
use Rattle.cov_station.proofs.suite.read_tests.Goals as goal

pub returns-in_err-bytes-clause-answer : goal.returns-in_err-bytes-clause-answer
returns-in_err-bytes-clause-answer g c = refused (search rules) (stopped c.in_err-bytes.ensures.answer)

pub returns-clause-answer : goal.returns-clause-answer
returns-clause-answer g c = took c.in_ok-bytes.ensures.answer (rw c.as_slice.ensures at c.tests_of.ensures.answer)

pub returns-clause-counts : goal.returns-clause-counts
returns-clause-counts g c = quiet (tests_quiet _ _) c.in_ok-bytes.ensures.counts c.tests_of.ensures.answer
