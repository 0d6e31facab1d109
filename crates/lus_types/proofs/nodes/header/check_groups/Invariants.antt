use Rattle.std.proofs.Common.{◌≡◌, ◌++◌, drop}
use Rattle.lus_types.specs.Checking.{Recursions, fault_in}
use Rattle.lus_types.specs.Names.{declared_names}
use Rattle.lus_types.specs.Views.{globals_seen, names_seen}
use Rattle.lus_types.specs.Walk as walk
use Rattle.lus_types.proofs.nodes.header.check_groups.Given as goal

abbrev pub invariant-loop-group : goal.invariant-loop-group
invariant-loop-group l =
    (l.declared ++ declared_names (drop l.group-index l.groups) ≡ l.initial.declared ++ declared_names l.groups)
    × ((r : Recursions) → fault_in r (walk.groups (globals_seen l.globals) l.is_input (names_seen l.defined) l.initial.declared l.groups) ≡ fault_in r (walk.groups (globals_seen l.globals) l.is_input (names_seen l.defined) l.declared (drop l.group-index l.groups)))
