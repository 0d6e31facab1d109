use Rattle.sat_core.specs.Conflicts.{IsPart}
use Rattle.sat_core.proofs.lesson.marked_clause.Given as goal

abbrev pub invariant-loop-k : goal.invariant-loop-k
invariant-loop-k l = IsPart l.trail l.k l.seen l.lits
