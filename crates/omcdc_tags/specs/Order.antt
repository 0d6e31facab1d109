-- The order in which the edges of an instant are done.
use Rattle.std.specs.Prelude.{◌≡◌, ◌<◌, ℕ, false, List, Some, length, slice_get}
use Rattle.op_network.specs.declared.edge.Edge.{Edge}
use Rattle.op_network.specs.declared.edge.EdgeId.{EdgeId}
use Rattle.dep_paths.specs.declared.path.Condition.{Condition}
use Rattle.dep_paths.specs.Conditions.{operand_at}
use Rattle.dep_paths.specs.Observed.{is_pre_edge}

-- an edge stands at a place before i
pub record StandsBefore (sequence : List EdgeId) (i : ℕ) (e : EdgeId) : Type 0 where
  pub place : ℕ
  pub before : place < i
  pub there : slice_get sequence place ≡ Some e

-- each edge stands in the sequence, and one that is no `Pre` stands behind its operands, which are edges
pub record IsInOrder (edges : List Edge) (sequence : List EdgeId) : Type 0 where
  pub operands : (port : Condition) (a : EdgeId) → operand_at edges port ≡ Some a → a.0 < length edges
  pub whole : (e : EdgeId) → e.0 < length edges → StandsBefore sequence (length sequence) e
  pub within : (i : ℕ) (e : EdgeId) → slice_get sequence i ≡ Some e → e.0 < length edges
  pub behind : (i : ℕ) (e a : EdgeId) (port : ℕ) → slice_get sequence i ≡ Some e → is_pre_edge edges e ≡ false
      → operand_at edges (record { edge = e; port = port }) ≡ Some a → StandsBefore sequence i a
