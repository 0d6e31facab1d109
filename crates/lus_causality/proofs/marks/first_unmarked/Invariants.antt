use Rattle.lus_causality.specs.Marks.{AreMarkedBelow}
use Rattle.lus_causality.proofs.marks.first_unmarked.Given as goal

abbrev pub invariant-loop-e : goal.invariant-loop-e
invariant-loop-e l = AreMarkedBelow l.marks l.e
