use Rattle.std.proofs.Common.{◌≡◌, drop, map}
use Rattle.node_expand.specs.Outlines as spec
use Rattle.node_expand.proofs.measures.node_measure.Given as goal

abbrev pub invariant-loop-outline : goal.invariant-loop-outline
invariant-loop-outline l = spec.all_added l.sum (map (spec.item_measure l.table) (drop l.outline-index l.outlines)) ≡ spec.node_measure l.table l.outlines
