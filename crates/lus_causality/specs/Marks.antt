-- Marks of edges.
use Rattle.std.specs.Prelude.{◌≡◌, ℕ, ◌<◌, Bool, true, false, List, length, slice_index_or, Contains}
use Rattle.op_network.specs.declared.edge.EdgeId.{EdgeId}
use Rattle.op_network.specs.declared.edge.Edge.{Edge}
use Rattle.lus_causality.specs.Causality.{operands_now}

-- an edge is marked
abbrev pub IsMarked : List Bool → EdgeId → Type 0
IsMarked marks e = slice_index_or marks e.0 false ≡ true

-- each of these edges is marked
pub record AreMarked (edges : List EdgeId) (marks : List Bool) : Type 0 where
  pub each : (o : EdgeId) → Contains edges o → IsMarked marks o

-- an edge is not marked, and its operands at the instant are
pub record IsFree (edges : List Edge) (marks : List Bool) (e : EdgeId) : Type 0 where
  pub within : e.0 < length edges
  pub unmarked : slice_index_or marks e.0 false ≡ false
  pub operands : AreMarked (operands_now edges e) marks

-- a place that is not marked
pub record IsUnmarked (marks : List Bool) (e : ℕ) : Type 0 where
  pub within : e < length marks
  pub unmarked : slice_index_or marks e false ≡ false

-- each place below k is marked
pub record AreMarkedBelow (marks : List Bool) (k : ℕ) : Type 0 where
  pub each : (e : EdgeId) → e.0 < k → IsMarked marks e

-- each place is marked
pub record AreAllMarked (marks : List Bool) : Type 0 where
  pub each : (e : EdgeId) → e.0 < length marks → IsMarked marks e
