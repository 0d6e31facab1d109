use Rattle.std.proofs.Common.{◌≡◌, length}
use Rattle.stream_run.proofs.firing.blank_row.Given as goal

abbrev pub invariant-loop-place : goal.invariant-loop-place
invariant-loop-place l = length l.row ≡ l._place
