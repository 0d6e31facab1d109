use Rattle.std.proofs.Common.{rules}
use Rattle.cov_station.proofs.ChainSteps.{refused, stopped, took}
use Rattle.cov_station.proofs.FileReads.{short}
use Rattle.cov_station.proofs.QuietSteps.{proof_quiet, quiet}
use Rattle.cov_station.proofs.proof.read_proof.Goals as goal

pub returns-in_err-text-clause-answer : goal.returns-in_err-text-clause-answer
returns-in_err-text-clause-answer g c = refused (search rules) (stopped c.in_err-text.ensures.answer)

pub proof_in-requires : goal.proof_in-requires
proof_in-requires g c = rw c.as_slice.ensures (short c.in_ok-text.ensures.answer)

pub returns-clause-answer : goal.returns-clause-answer
returns-clause-answer g c = took c.in_ok-text.ensures.answer (rw c.as_slice.ensures at c.proof_in.ensures.answer)

pub returns-clause-counts : goal.returns-clause-counts
returns-clause-counts g c = quiet (proof_quiet _) c.in_ok-text.ensures.counts c.proof_in.ensures.answer
