use Rattle.goal_cnf.proofs.Hitting.{HitsSoFar}
use Rattle.goal_cnf.proofs.instants.hits.Given as goal

abbrev pub invariant-loop-t : goal.invariant-loop-t
invariant-loop-t l = HitsSoFar l.net.network l.net.sequence l.plan l.duty l.un.words l.fn.maker l.maker l.t l.lits l.adm l.hits
