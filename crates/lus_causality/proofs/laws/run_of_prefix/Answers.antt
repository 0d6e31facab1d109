use Rattle.lus_causality.proofs.Runs.{run_of_front}
use Rattle.lus_causality.proofs.laws.run_of_prefix.Goals as goal

pub returns : goal.returns
returns c = run_of_front
