use Rattle.std.proofs.Common.{◌≡◌, None, replicate}
use Rattle.omcdc_tags.proofs.ports.no_places.Given as goal

abbrev pub invariant-loop-place : goal.invariant-loop-place
invariant-loop-place l = l.table ≡ replicate l._place None
