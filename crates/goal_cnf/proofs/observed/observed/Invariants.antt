use Rattle.goal_cnf.proofs.Tagging.{OutputsSoFar}
use Rattle.goal_cnf.proofs.observed.observed.Given as goal

abbrev pub invariant-loop-e : goal.invariant-loop-e
invariant-loop-e l = OutputsSoFar l.tags l.outputs l.fn.maker l.maker l.e-index l.met
