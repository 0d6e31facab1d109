-- Plans: the paths of a network and the obligations on them, if both are within their limits.
use Rattle.std.specs.Prelude.{◌≡◌, ℕ, Result, Ok, Err}
use Rattle.dep_paths.specs.declared.limits.TheConstants.{MOST_OBLIGATIONS, MOST_PATHS}
use Rattle.dep_paths.specs.Duties.{AsksTooMuch, IsPlanOf, Planned}
use Rattle.dep_paths.specs.Paths.{MoreThan}
use Rattle.op_network.specs.declared.edge.Parts.{Parts}
use Rattle.cov_station.specs.declared.refusal.Quantity.TheVariants.{Obligations, Paths}
use Rattle.cov_station.specs.declared.refusal.Refusal.{Refusal}
use Rattle.cov_station.specs.declared.refusal.Refusal.TheVariants.{OverLimit}

-- The plan over the complete paths of at most n edges. Too many paths are refused first, and then
-- too many obligations.
pub data MakesPlan (parts : Parts) (n : ℕ) : Result Planned Refusal → Type 0 where
  makes_plan : {plan : Planned} → IsPlanOf parts plan → plan.length ≡ n
      → (MoreThan MOST_PATHS parts n → ⊥) → (AsksTooMuch parts n → ⊥) → MakesPlan parts n (Ok plan)
  has_many_paths : MoreThan MOST_PATHS parts n
      → MakesPlan parts n (Err (OverLimit Paths MOST_PATHS))
  has_many_obligations : AsksTooMuch parts n
      → MakesPlan parts n (Err (OverLimit Obligations MOST_OBLIGATIONS))
