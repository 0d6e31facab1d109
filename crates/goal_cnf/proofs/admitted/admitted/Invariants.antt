use Rattle.unroll_cnf.specs.Made.{word_at}
use Rattle.goal_cnf.proofs.Admitting.{AdmSoFar}
use Rattle.goal_cnf.proofs.admitted.admitted.Given as goal

abbrev pub invariant-loop-e : goal.invariant-loop-e
invariant-loop-e l = AdmSoFar (word_at l.un.words l.t) l.fn.adm l.asserts l.fn.maker l.maker l.e-index l.admitted
