use Rattle.lus_types.specs.Graphs.{AllEnd}
use Rattle.lus_types.proofs.calls.ending.settle_callers.Given as goal

abbrev pub invariant-loop-caller : goal.invariant-loop-caller
invariant-loop-caller l = AllEnd l.rows l.search.marks
