use Rattle.std.proofs.Common.{◌≡◌, drop, map}
use Rattle.node_expand.specs.Outlines as spec
use Rattle.node_expand.proofs.measures.item_measure.Given as goal

abbrev pub invariant-loop-callee : goal.invariant-loop-callee
invariant-loop-callee l = spec.all_added l.sum (map (spec.measure_at l.table) (drop l.callee-index l.callee-items)) ≡ spec.item_measure l.table l.outline
