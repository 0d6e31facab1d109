use Rattle.std.proofs.Common.{◌-◌}
use Rattle.unroll_cnf.proofs.Choices.{BitsSoFar}
use Rattle.unroll_cnf.proofs.widths.choice_bits.Given as goal

abbrev pub invariant-loop-bits : goal.invariant-loop-bits
invariant-loop-bits l = BitsSoFar l.names l.bits

abbrev pub decreases-loop-bits : goal.decreases-loop-bits
decreases-loop-bits l = 8 - l.bits
