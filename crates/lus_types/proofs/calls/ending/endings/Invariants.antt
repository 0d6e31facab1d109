use Rattle.lus_types.specs.Graphs.{AllEnd}
use Rattle.lus_types.proofs.calls.ending.endings.Given as goal

abbrev pub invariant-loop-next : goal.invariant-loop-next
invariant-loop-next l = AllEnd l.rows l.search.marks
