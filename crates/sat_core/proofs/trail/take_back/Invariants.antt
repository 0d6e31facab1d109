use Rattle.std.proofs.Common.{◌≡◌, length}
use Rattle.sat_core.proofs.Placing.{Back}
use Rattle.sat_core.proofs.trail.take_back.Given as goal

abbrev pub invariant-loop-entries : goal.invariant-loop-entries
invariant-loop-entries l =
    Back l.initial.entries.items l.entries.items l.places.items l.to × (length l.places.items ≡ length l.initial.places.items)

abbrev pub decreases-loop-entries : goal.decreases-loop-entries
decreases-loop-entries l = length l.entries.items
