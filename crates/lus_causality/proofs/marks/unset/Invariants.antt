use Rattle.std.proofs.Common.{length}
use Rattle.lus_causality.proofs.Clearing.{UnsetBelow}
use Rattle.lus_causality.proofs.marks.unset.Given as goal

abbrev pub invariant-loop-place : goal.invariant-loop-place
invariant-loop-place l = UnsetBelow (length l.fn.marks) l.place l.marks
