use Rattle.std.proofs.Common.{◌≡◌, ◌++◌, take}
use Rattle.std.specs.List.{flat_map}
use Rattle.lus_types.specs.Calls.{called_in}
use Rattle.lus_types.specs.Graphs.{callees}
use Rattle.lus_types.specs.Views.{globals_seen}
use Rattle.lus_types.proofs.calls.callees.add_from_items.Given as goal

abbrev pub invariant-loop-item : goal.invariant-loop-item
invariant-loop-item l = l.row ≡ l.initial.row ++ callees (globals_seen l.names) (flat_map called_in (take l.item-index l.items))
