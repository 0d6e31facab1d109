use Rattle.std.proofs.Common.{◌≡◌, ℕ, ◌<◌, ◌≤◌, length, None}
use Rattle.sat_core.specs.Trail.{reason_at}
use Rattle.sat_core.proofs.trail.Trail.last_decision.Given as goal

abbrev pub invariant-loop-k : goal.invariant-loop-k
invariant-loop-k l = (k : ℕ) → l.k ≤ k → k < length l.self.entries.items → reason_at l.self.entries.items k ≡ None → ⊥
