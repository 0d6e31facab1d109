-- A set of numbers that grows, and gives its least.
use Rattle.std.specs.Prelude.{◌≡◌, ◌⊎◌, ℕ, ◌≤◌, List, Contains}

-- the numbers, with one more
pub record IsAdded (old : List ℕ) (x : ℕ) (new : List ℕ) : Type 0 where
  pub each : (q : ℕ) → Contains new q → (q ≡ x) ⊎ Contains old q
  pub added : Contains new x
  pub kept : (q : ℕ) → Contains old q → Contains new q

-- the numbers without the least
pub record IsTaken (old : List ℕ) (x : ℕ) (new : List ℕ) : Type 0 where
  pub had : Contains old x
  pub least : (q : ℕ) → Contains old q → x ≤ q
  pub gone : Contains new x → ⊥
  pub each : (q : ℕ) → Contains new q → Contains old q
  pub kept : (q : ℕ) → Contains old q → (q ≡ x) ⊎ Contains new q
