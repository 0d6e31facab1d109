use Rattle.std.proofs.Common.{◌≡◌, ◌++◌, take, drop}
use Rattle.lus_types.specs.Checking.{Recursions, fault_in}
use Rattle.lus_types.specs.Names.{spot_names}
use Rattle.lus_types.specs.Views.{names_seen}
use Rattle.lus_types.specs.Walk as walk
use Rattle.lus_types.proofs.nodes.header.check_variable_names.Given as goal

abbrev pub invariant-loop-name : goal.invariant-loop-name
invariant-loop-name l =
    (l.declared ≡ l.initial.declared ++ spot_names (take l.name-index l.names))
    × ((r : Recursions) → fault_in r (walk.group_names l.is_input (names_seen l.defined) l.initial.declared l.names) ≡ fault_in r (walk.group_names l.is_input (names_seen l.defined) l.declared (drop l.name-index l.names)))
