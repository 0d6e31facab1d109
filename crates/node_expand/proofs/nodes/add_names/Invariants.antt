use Rattle.std.proofs.Common.{◌≡◌, ◌++◌, drop}
use Rattle.node_expand.specs.Roots.{group_variables}
use Rattle.node_expand.proofs.nodes.add_names.Given as goal

abbrev pub invariant-loop-spot : goal.invariant-loop-spot
invariant-loop-spot l = l.variables ++ group_variables l.ty (drop l.spot-index l.spots) ≡ l.initial.variables ++ group_variables l.ty l.spots
