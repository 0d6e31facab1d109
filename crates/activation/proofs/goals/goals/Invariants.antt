-- The obligations so far have their nodes.
use Rattle.activation.specs.Growing.{AreGoalsBelow}
use Rattle.activation.proofs.goals.goals.Given as goal

abbrev pub invariant-loop-duty : goal.invariant-loop-duty
invariant-loop-duty l = AreGoalsBelow l.duty-index l.tree l.paths l.duties l.goals
