use Rattle.dep_paths.proofs.Chains.{passed_on}
use Rattle.dep_paths.proofs.law.reach_is_passed_on.Goals as goal

pub returns : goal.returns
returns c = passed_on
