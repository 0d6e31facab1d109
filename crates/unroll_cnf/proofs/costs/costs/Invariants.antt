use Rattle.unroll_cnf.specs.Sizes.{cost_of, most_cost}
use Rattle.unroll_cnf.proofs.Totals.{TotalSoFar}
use Rattle.unroll_cnf.proofs.costs.costs.Given as goal

abbrev pub invariant-loop-edge : goal.invariant-loop-edge
invariant-loop-edge l = TotalSoFar most_cost (cost_of l.net) l.net.edges l.edge-index l.total
