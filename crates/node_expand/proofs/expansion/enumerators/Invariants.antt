use Rattle.std.proofs.Common.{◌≡◌, ◌++◌, drop}
use Rattle.lus_types.specs.Names.{spot_names}
use Rattle.node_expand.proofs.expansion.enumerators.Given as goal

abbrev pub invariant-loop-spot : goal.invariant-loop-spot
invariant-loop-spot l = l.names ++ spot_names (drop l.spot-index l.spots) ≡ spot_names l.spots
