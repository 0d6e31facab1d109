use Rattle.std.proofs.Common.{◌≡◌, ◌+◌, ◌++◌, drop, map}
use Rattle.node_expand.proofs.right.shifted.Given as goal

abbrev pub invariant-loop-edge : goal.invariant-loop-edge
invariant-loop-edge l = l.list ++ map (λ k. l.start + k) (drop l.edge-index l.edges) ≡ map (λ k. l.start + k) l.edges
