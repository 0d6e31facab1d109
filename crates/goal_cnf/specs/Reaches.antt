-- Whether an obligation can be met, or covered, within some instants, and when a formula says so.
use Rattle.std.specs.Prelude.{ℕ, ◌-◌, ◌≤◌, ◌↔◌, Bool, List, length, All}
use Rattle.cnf_form.specs.Shape.{Shape, Satisfies}
use Rattle.op_network.specs.declared.edge.Parts.{Parts}
use Rattle.op_network.specs.declared.value.Value.{Value}
use Rattle.op_network.specs.Admissible.{AssertsHold}
use Rattle.op_network.specs.Run.{IsRun}
use Rattle.op_network.specs.Valid.{FitsRow}
use Rattle.dep_paths.specs.declared.path.Obligation.{Obligation}
use Rattle.dep_paths.specs.Activation.{Frames}
use Rattle.dep_paths.specs.Coverage.{Covers, Met}
use Rattle.dep_paths.specs.Duties.{Planned}

-- Rows of inputs, one or more, that fit and are admissible, and whose run meets the obligation at
-- the last instant.
pub record Reaches (parts : Parts) (plan : Planned) (o : Obligation) (rows : List (List Value))
    : Type 0 where
  pub some : 1 ≤ length rows
  pub fits : All (FitsRow parts) rows
  pub frames : Frames
  pub run : IsRun parts.width parts.edges rows frames
  pub admissible : All (AssertsHold parts) frames
  pub met : Met parts plan frames o (length rows - 1)

-- at most k such rows
pub record IsReachable (parts : Parts) (plan : Planned) (o : Obligation) (k : ℕ) : Type 0 where
  pub rows : List (List Value)
  pub few : length rows ≤ k
  pub reaches : Reaches parts plan o rows

-- Rows of inputs, at most k, that fit and are admissible, and whose run covers the obligation: it is
-- met at some instant.
pub record IsCoverable (parts : Parts) (plan : Planned) (o : Obligation) (k : ℕ) : Type 0 where
  pub rows : List (List Value)
  pub few : length rows ≤ k
  pub fits : All (FitsRow parts) rows
  pub frames : Frames
  pub run : IsRun parts.width parts.edges rows frames
  pub admissible : All (AssertsHold parts) frames
  pub covers : Covers parts plan (record { frames = frames; kept = length rows }) o

-- the formula is satisfiable exactly where the obligation is reachable
abbrev pub Encodes : Shape → Parts → Planned → Obligation → ℕ → Type 0
Encodes f parts plan o k = ((v : ℕ → Bool) × Satisfies v f) ↔ IsReachable parts plan o k
