use Rattle.std.proofs.Common.{◌≡◌, ◌+◌, ◌++◌, drop}
use Rattle.node_expand.specs.Instances as spec
use Rattle.node_expand.proofs.items.add_own.Given as goal

abbrev pub invariant-loop-i : goal.invariant-loop-i
invariant-loop-i l = l.edges ++ spec.own_edges l.root l.asserted (l.first + l.i) (drop l.i l.gates) ≡ l.initial.edges ++ spec.own_edges l.root l.asserted l.first l.gates
