use Rattle.unroll_cnf.proofs.Instants.{InstantsSoFar}
use Rattle.unroll_cnf.proofs.unrolling.instants.Given as goal

abbrev pub invariant-loop-instant : goal.invariant-loop-instant
invariant-loop-instant l = InstantsSoFar l.parts l.order l.k l.fn.maker l.maker l._instant l.all
