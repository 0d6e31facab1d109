use Rattle.std.proofs.Common.{◌≡◌, ◌-◌, drop, length}
use Rattle.lus_types.specs.Types as spec
use Rattle.lus_types.proofs.expressions.operators.any_differ.Given as goal

abbrev pub invariant-loop-i : goal.invariant-loop-i
invariant-loop-i l = spec.any_differ l.first l.second ≡ spec.any_differ (drop l.i l.first) (drop l.i l.second)

abbrev pub decreases-loop-i : goal.decreases-loop-i
decreases-loop-i l = length l.first - l.i
