use Rattle.lus_types.specs.Graphs.{AreNumbered}
use Rattle.lus_types.proofs.calls.cycles.number_all.Given as goal

abbrev pub invariant-loop-place : goal.invariant-loop-place
invariant-loop-place l = AreNumbered l.rows l.place l.numbers
