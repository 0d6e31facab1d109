-- When an obligation is met, and what the run of a test covers.
use Rattle.std.specs.Prelude.{◌≡◌, ◌<◌, ℕ, Bool, IsTrue, List, Some, Contains, slice_get}
use Rattle.op_network.specs.declared.edge.Parts.{Parts}
use Rattle.dep_paths.specs.declared.path.Condition.{Condition}
use Rattle.dep_paths.specs.declared.path.Obligation.{Obligation}
use Rattle.dep_paths.specs.declared.path.Obligation.TheVariants.{Bc, Ecc, Mcc, Omc}
use Rattle.dep_paths.specs.Activation.{Frames, activates}
use Rattle.dep_paths.specs.Duties.{Planned}
use Rattle.dep_paths.specs.Observed.{IsObserved}

-- the condition at a place of a list is observed at t with a value
pub record Observes (net : Parts) (conditions : List Condition) (frames : Frames) (place : ℕ)
    (value : Bool) (t : ℕ) : Type 0 where
  pub condition : Condition
  pub listed : slice_get conditions place ≡ Some condition
  pub observed : IsObserved net frames (record { condition = condition; value = value }) t

-- An obligation is met at t: one on a path where the path is active with what is pinned, and one on
-- a condition where the condition is observed with the value.
abbrev pub Met : Parts → Planned → Frames → Obligation → ℕ → Type 0
Met net plan frames (Omc condition value) t =
    Observes net plan.conditions frames condition value t
Met net plan frames duty t = IsTrue (activates net.edges plan.paths frames duty t)

-- the frames of a run, and how many of its instants count
pub record KeptRun : Type 0 where
  pub frames : Frames
  pub kept : ℕ

-- a run covers an obligation: it is met at an instant that counts
pub record Covers (net : Parts) (plan : Planned) (run : KeptRun) (duty : Obligation)
    : Type 0 where
  pub instant : ℕ
  pub counts : instant < run.kept
  pub met : Met net plan run.frames duty instant

-- one of some runs covers the obligation
pub record IsCoveredBy (net : Parts) (plan : Planned) (runs : List KeptRun) (duty : Obligation)
    : Type 0 where
  pub run : KeptRun
  pub listed : Contains runs run
  pub covers : Covers net plan run duty
