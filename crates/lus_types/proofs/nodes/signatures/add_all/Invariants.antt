use Rattle.std.proofs.Common.{◌≡◌, drop}
use Rattle.lus_types.specs.Names.{Name, spot_names}
use Rattle.lus_types.specs.NameTables.{among_either}
use Rattle.lus_types.proofs.nodes.signatures.add_all.Given as goal

abbrev pub invariant-loop-spot : goal.invariant-loop-spot
invariant-loop-spot l = (x : Name) → among_either x l.names (spot_names (drop l.spot-index l.spots)) ≡ among_either x l.initial.names (spot_names l.spots)
