use Rattle.std.specs.List.{AllAdjacentBelow}
use Rattle.std.proofs.Common.{◌<◌}
use Rattle.op_network.specs.declared.edge.EdgeId.{EdgeId}
use Rattle.op_network.proofs.valid.places.rise.Given as goal

abbrev pub invariant-loop-place : goal.invariant-loop-place
invariant-loop-place l = AllAdjacentBelow (λ (a b : EdgeId). a.0 < b.0) l.ids l.place
