use Rattle.unroll_cnf.proofs.Totals.{TotalSoFar, ports_at}
use Rattle.unroll_cnf.proofs.costs.ports.Given as goal

abbrev pub invariant-loop-e : goal.invariant-loop-e
invariant-loop-e l = TotalSoFar 255 ports_at l.net.edges l.e l.total
