use Rattle.sat_core.proofs.Cuts.{Cutting}
use Rattle.sat_core.proofs.lesson.cut_place.Given as goal

abbrev pub invariant-loop-place : goal.invariant-loop-place
invariant-loop-place l = Cutting l.trail l.seen l.from l.cut l.place
