use Rattle.std.proofs.Common.{rules}
use Rattle.unroll_cnf.proofs.Exclusions.{one_excluded}
use Rattle.unroll_cnf.proofs.input.exclude.Goals as goal

pub loop-number-preserved : goal.loop-number-preserved
loop-number-preserved c = one_excluded _ _ _ _ _ _ _ _ c.loop-number.invariant c.loop-number-test.true c.in_ok-clause.ensures (search rules)
