use Rattle.std.proofs.Common.{take}
use Rattle.lus_types.specs.Graphs.{AddsCaller}
use Rattle.lus_types.proofs.calls.callees.add_caller_to_all.Given as goal

abbrev pub invariant-loop-place : goal.invariant-loop-place
invariant-loop-place l = AddsCaller l.caller (take l.place-index l.places) l.initial.rows l.rows
