use Rattle.std.proofs.Common.{◌≡◌}
use Rattle.goal_cnf.specs.Decoded.{valuation}
use Rattle.goal_cnf.proofs.Testing.{DecodedSoFar}
use Rattle.goal_cnf.proofs.model.decode.Given as goal

abbrev pub invariant-loop-t : goal.invariant-loop-t
invariant-loop-t l = DecodedSoFar l.net.network (valuation l.bits) l.un.words l.goal.hits l.t l.values × (l.name ≡ l.fn.name)
