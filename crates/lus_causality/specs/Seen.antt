-- Edges that are seen with all that leads to them, and edges that lie on no cycle.
use Rattle.std.specs.Prelude.{AllPairs, Contains, ◌≡◌, ◌≢◌, ℕ, Bool, ◌<◌, List, length, Some, slice_get}
use Rattle.op_network.specs.declared.edge.EdgeId.{EdgeId}
use Rattle.op_network.specs.declared.edge.Edge.{Edge}
use Rattle.lus_causality.specs.declared.sequence.Taken.{Taken}
use Rattle.lus_causality.specs.Causality.{operands_now, IsOnCycle}
use Rattle.lus_causality.specs.Marks.{IsMarked}

-- the marked edges are those of the list, in which none stands twice
pub record IsMarkedList (edges : List Edge) (seen : Taken) : Type 0 where
  pub size : length seen.marks ≡ length edges
  pub marked : (e : EdgeId) → Contains seen.sequence e → IsMarked seen.marks e
  pub listed : (e : EdgeId) → IsMarked seen.marks e → Contains seen.sequence e
  pub within : (e : EdgeId) → Contains seen.sequence e → e.0 < length edges
  pub distinct : AllPairs (λ (a b : EdgeId). a ≢ b) seen.sequence

-- an edge is in the list
pub record IsListed (seen : Taken) (o : EdgeId) : Type 0 where
  pub is : Contains seen.sequence o

-- each of these operands is in the list
pub record AreListed (operands : List EdgeId) (seen : Taken) : Type 0 where
  pub each : (o : EdgeId) → Contains operands o → Contains seen.sequence o

-- so are the operands of the first edges of the list
pub record AreFollowedBelow (edges : List Edge) (seen : Taken) (i : ℕ) : Type 0 where
  pub each : (j : ℕ) (b : EdgeId) → j < i → slice_get seen.sequence j ≡ Some b
      → AreListed (operands_now edges b) seen

-- so are those of all edges of the list
pub record IsClosed (edges : List Edge) (seen : Taken) : Type 0 where
  pub each : (b : EdgeId) → Contains seen.sequence b → AreListed (operands_now edges b) seen

-- the marked edges lie on no cycle
pub record AreOff (edges : List Edge) (off : List Bool) : Type 0 where
  pub size : length off ≡ length edges
  pub none : (e : EdgeId) → IsMarked off e → IsOnCycle edges e → ⊥
