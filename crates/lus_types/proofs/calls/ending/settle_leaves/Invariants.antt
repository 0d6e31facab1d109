use Rattle.lus_types.specs.Graphs.{AllEnd}
use Rattle.lus_types.proofs.calls.ending.settle_leaves.Given as goal

abbrev pub invariant-loop-place : goal.invariant-loop-place
invariant-loop-place l = AllEnd l.rows l.search.marks
