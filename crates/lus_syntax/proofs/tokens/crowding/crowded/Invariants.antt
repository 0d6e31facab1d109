use Rattle.std.proofs.Common.{◌≤◌}
use Rattle.lus_syntax.specs.declared.limits.TheConstants.{MOST_COUNTED}
use Rattle.lus_syntax.proofs.Crowds.{IsCount, NoCrowdBefore}
use Rattle.lus_syntax.proofs.tokens.crowding.crowded.Given as goal

abbrev pub invariant-loop-place : goal.invariant-loop-place
invariant-loop-place l = record { count : IsCount l.tokens l.place l.count; bound : l.count ≤ MOST_COUNTED; none : NoCrowdBefore l.tokens l.place }
