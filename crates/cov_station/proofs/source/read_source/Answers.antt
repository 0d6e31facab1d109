use Rattle.std.proofs.Common.{rules}
use Rattle.cov_station.proofs.ChainSteps.{refused, stopped, took}
use Rattle.cov_station.proofs.FileReads.{short}
use Rattle.cov_station.proofs.QuietSteps.{compiles_quiet, quiet}
use Rattle.cov_station.proofs.source.read_source.Goals as goal

pub returns-in_err-text-clause-answer : goal.returns-in_err-text-clause-answer
returns-in_err-text-clause-answer g c = refused (search rules) (stopped c.in_err-text.ensures.answer)

pub compile-requires-clause-short : goal.compile-requires-clause-short
compile-requires-clause-short g c = rw c.as_slice.ensures (short c.in_ok-text.ensures.answer)

pub returns-clause-answer : goal.returns-clause-answer
returns-clause-answer g c = took c.in_ok-text.ensures.answer (rw c.as_slice.ensures at c.compile.ensures)

pub returns-clause-counts : goal.returns-clause-counts
returns-clause-counts g c = quiet (compiles_quiet _ _ _) c.in_ok-text.ensures.counts c.compile.ensures
