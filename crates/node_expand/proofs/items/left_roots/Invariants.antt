use Rattle.std.proofs.Common.{◌≡◌, ◌++◌, drop, map}
use Rattle.node_expand.specs.Headers.{node_seen}
use Rattle.node_expand.specs.Law.{program_in}
use Rattle.node_expand.specs.Roots.{left_root}
use Rattle.node_expand.proofs.items.left_roots.Given as goal

abbrev pub invariant-loop-spot : goal.invariant-loop-spot
invariant-loop-spot l = l.roots ++ map (left_root (program_in l.typed) (node_seen l.header)) (drop l.spot-index l.left) ≡ map (left_root (program_in l.typed) (node_seen l.header)) l.left
