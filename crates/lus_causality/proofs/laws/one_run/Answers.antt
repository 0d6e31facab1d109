use Rattle.lus_causality.proofs.Runs.{some_run, one_run}
use Rattle.lus_causality.proofs.laws.one_run.Goals as goal

pub returns-clause-some : goal.returns-clause-some
returns-clause-some c = some_run

pub returns-clause-only : goal.returns-clause-only
returns-clause-only c = one_run
