use Rattle.std.proofs.Common.{◌≡◌, ◌++◌, take}
use Rattle.std.specs.List.{flat_map}
use Rattle.lus_types.specs.Calls.{called_names}
use Rattle.lus_types.specs.Graphs.{callees}
use Rattle.lus_types.specs.Views.{globals_seen}
use Rattle.lus_types.proofs.calls.callees.+callees.Given as goal

abbrev pub invariant-add_from_args-loop-arg : goal.invariant-add_from_args-loop-arg
invariant-add_from_args-loop-arg l = l.row ≡ l.initial.row ++ callees (globals_seen l.names) (flat_map called_names (take l.arg-index l.args))
