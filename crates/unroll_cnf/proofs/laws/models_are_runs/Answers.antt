use Rattle.unroll_cnf.proofs.Models.{rows_have_models}
use Rattle.unroll_cnf.proofs.Runs.{models_are_runs}
use Rattle.unroll_cnf.proofs.laws.models_are_runs.Goals as goal

pub returns-clause-runs : goal.returns-clause-runs
returns-clause-runs c = models_are_runs

pub returns-clause-models : goal.returns-clause-models
returns-clause-models c = rows_have_models
