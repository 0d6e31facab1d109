use Rattle.goal_cnf.proofs.Coverable.{reachable_is_coverable}
use Rattle.goal_cnf.proofs.laws.reachable_is_coverable.Goals as goal

pub returns : goal.returns
returns c = reachable_is_coverable
