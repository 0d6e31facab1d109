use Rattle.std.proofs.Common.{◌≡◌, false, replicate}
use Rattle.omcdc_tags.proofs.sets.rows.Given as goal

abbrev pub invariant-loop-place : goal.invariant-loop-place
invariant-loop-place l = l.rows ≡ replicate l._place (replicate l.bits false)
