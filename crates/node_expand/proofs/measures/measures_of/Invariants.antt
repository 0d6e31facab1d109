use Rattle.std.proofs.Common.{◌≡◌}
use Rattle.node_expand.specs.Outlines as spec
use Rattle.node_expand.proofs.measures.measures_of.Given as goal

abbrev pub invariant-loop-level : goal.invariant-loop-level
invariant-loop-level l = l.table ≡ spec.measures l.outlines l._level
