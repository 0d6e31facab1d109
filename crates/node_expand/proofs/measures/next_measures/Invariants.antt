use Rattle.std.proofs.Common.{◌≡◌, ◌++◌, drop, map}
use Rattle.node_expand.specs.Outlines as spec
use Rattle.node_expand.proofs.measures.next_measures.Given as goal

abbrev pub invariant-loop-of_items : goal.invariant-loop-of_items
invariant-loop-of_items l = l.next ++ map (spec.node_measure l.table) (drop l.of_items-index l.outlines) ≡ spec.next_measures l.outlines l.table
