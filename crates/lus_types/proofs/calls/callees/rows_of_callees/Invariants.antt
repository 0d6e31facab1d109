use Rattle.std.proofs.Common.{◌≡◌, take}
use Rattle.lus_types.specs.Graphs.{call_rows}
use Rattle.lus_types.specs.Views.{globals_seen}
use Rattle.lus_types.proofs.calls.callees.rows_of_callees.Given as goal

abbrev pub invariant-loop-decl : goal.invariant-loop-decl
invariant-loop-decl l = l.rows ≡ call_rows (globals_seen l.names) (take l.decl-index l.decls)
