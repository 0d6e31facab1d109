-- There are so many items so far.
use Rattle.std.proofs.Common.{◌≡◌, length}
use Rattle.activation.proofs.acts.filled.Given as goal

abbrev pub invariant-loop-place : goal.invariant-loop-place
invariant-loop-place g l = length l.items ≡ l._place
