use Rattle.std.proofs.Common.{◌≡◌, ◌++◌, drop, map}
use Rattle.node_expand.specs.Expanding.{edge_behind}
use Rattle.node_expand.proofs.expansion.ids_of.Given as goal

abbrev pub invariant-loop-place : goal.invariant-loop-place
invariant-loop-place l = l.ids ++ map (edge_behind l.start) (drop l.place-index l.places) ≡ map (edge_behind l.start) l.places
