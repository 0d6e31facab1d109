use Rattle.lus_types.specs.Graphs.{AreCallers}
use Rattle.lus_types.proofs.calls.callees.add_all_callers.Given as goal

abbrev pub invariant-loop-caller : goal.invariant-loop-caller
invariant-loop-caller l = AreCallers l.rows l.caller l.back
