use Rattle.std.proofs.Common.{◌≡◌, ◌++◌, drop, map}
use Rattle.node_expand.specs.Instances as spec
use Rattle.node_expand.specs.Variables.{variable_seen}
use Rattle.node_expand.proofs.items.add_ids.Given as goal

abbrev pub invariant-loop-i : goal.invariant-loop-i
invariant-loop-i l = l.edges ++ spec.id_edges l.prefix l.asserted (map variable_seen (drop l.i l.roots)) (drop l.i l.values) ≡ l.initial.edges ++ spec.id_edges l.prefix l.asserted (map variable_seen l.roots) l.values
