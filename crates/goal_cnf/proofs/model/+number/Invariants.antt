use Rattle.std.proofs.Common.{length}
use Rattle.goal_cnf.proofs.model.+number.Given as goal

abbrev pub decreases-number : goal.decreases-number
decreases-number l = length l.word.now
