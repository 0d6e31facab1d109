-- What is known of a run while it goes on, for the crate's own functions.
use Rattle.std.specs.Prelude.{◌≡◌, ◌↔◌, ◌⊎◌, ℕ, ◌-◌, Bool, IsTrue, Some, length, slice_get}
use Rattle.activation.specs.Acts.{IsMadeFor as AreActsFor, StandsFor as ActsStandFor}
use Rattle.dep_paths.specs.declared.path.Obligation.{Obligation}
use Rattle.dep_paths.specs.Activation.{Frames}
use Rattle.dep_paths.specs.Coverage.{Met}
use Rattle.dep_paths.specs.Duties.{Planned}
use Rattle.omcdc_tags.specs.Tags.{IsMadeFor as AreTagsFor, StandsFor as TagsStandFor}
use Rattle.op_network.specs.declared.edge.Parts.{Parts}
use Rattle.score_table.specs.declared.watch.Watch.{Watch}

-- it was made for this network and this plan
pub record IsWatchFor (parts : Parts) (plan : Planned) (watch : Watch) : Type 0 where
  pub paths : AreActsFor plan watch.acts
  pub conditions : AreTagsFor parts plan watch.tags

-- it was made for a network with this plan
pub record IsWatchOver (plan : Planned) (watch : Watch) : Type 0 where
  pub parts : Parts
  pub made : IsWatchFor parts plan watch

-- it watched these frames
pub record Watches (parts : Parts) (plan : Planned) (frames : Frames) (watch : Watch) : Type 0 where
  pub made : IsWatchFor parts plan watch
  pub active : ActsStandFor parts.edges frames watch.acts
  pub observed : TagsStandFor parts frames watch.tags

-- the obligation is met at the last of these instants
abbrev pub MetLast : Parts → Planned → Frames → Obligation → Type 0
MetLast parts plan frames duty = Met parts plan frames duty (length frames - 1)

-- the answer is whether the obligation at a place of a plan is met at the last of these instants
abbrev pub TellsMetLast : Parts → Planned → Frames → ℕ → Bool → Type 0
TellsMetLast parts plan frames o answer = (duty : Obligation) → slice_get plan.duties o ≡ Some duty
    → IsTrue answer ↔ MetLast parts plan frames duty

-- the obligation at a place of a plan is marked now where it was, or is met at the last of these
-- instants
abbrev pub MarksLast : Parts → Planned → Frames → ℕ → Bool → Bool → Type 0
MarksLast parts plan frames o old new = (duty : Obligation) → slice_get plan.duties o ≡ Some duty
    → IsTrue new ↔ (IsTrue old ⊎ MetLast parts plan frames duty)
