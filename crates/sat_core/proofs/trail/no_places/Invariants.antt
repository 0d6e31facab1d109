use Rattle.std.proofs.Common.{◌≡◌, replicate, None}
use Rattle.sat_core.proofs.trail.no_places.Given as goal

abbrev pub invariant-loop-var : goal.invariant-loop-var
invariant-loop-var l = l.places ≡ replicate l._var None
