-- The search for the edges that lead to an edge.
use Rattle.std.specs.Prelude.{AllPairs, Contains, ◌≡◌, ◌≢◌, ◌⊎◌, ℕ, Bool, ◌<◌, List, ◌++◌, length, Some, slice_get}
use Rattle.op_network.specs.declared.edge.EdgeId.{EdgeId}
use Rattle.op_network.specs.declared.edge.Edge.{Edge}
use Rattle.lus_causality.specs.declared.sequence.Taken.{Taken}
use Rattle.lus_causality.specs.Causality.{operands_now, Leads, IsOnCycle}
use Rattle.lus_causality.specs.Marks.{IsMarked}

-- an edge leads to another by operands of an instant
abbrev pub LeadsTo : List Edge → EdgeId → EdgeId → Type 0
LeadsTo edges a b = (way : List EdgeId) × Leads edges a way b

-- what is found leads to the edge
pub record IsSearch (edges : List Edge) (e : EdgeId) (found : Taken) : Type 0 where
  pub size : length found.marks ≡ length edges
  pub marked : (o : EdgeId) → Contains found.sequence o → IsMarked found.marks o
  pub found_at : (o : EdgeId) → IsMarked found.marks o → Contains found.sequence o
  pub within : (o : EdgeId) → Contains found.sequence o → o.0 < length edges
  pub distinct : AllPairs (λ (a b : EdgeId). a ≢ b) found.sequence
  pub leads : (o : EdgeId) → Contains found.sequence o → LeadsTo edges o e

-- what was found first stays so
pub record IsFurther (old new : Taken) : Type 0 where
  pub rest : List EdgeId
  pub is : new.sequence ≡ old.sequence ++ rest

-- an edge is found, or was taken before the search
abbrev pub IsFoundOrTaken : List Bool → Taken → EdgeId → Type 0
IsFoundOrTaken taken found o = Contains found.sequence o ⊎ IsMarked taken o

-- each of these operands is found, or was taken
pub record HasOperands (taken : List Bool) (operands : List EdgeId) (found : Taken) : Type 0 where
  pub each : (o : EdgeId) → Contains operands o → IsFoundOrTaken taken found o

-- so are the operands of the first edges found
pub record AreFollowed (edges : List Edge) (taken : List Bool) (found : Taken)
    (i : ℕ) : Type 0 where
  pub each : (j : ℕ) (b : EdgeId) → j < i → slice_get found.sequence j ≡ Some b
      → HasOperands taken (operands_now edges b) found

-- no edge below k lies on a cycle
pub record NoneBelow (edges : List Edge) (k : ℕ) : Type 0 where
  pub none : (e : EdgeId) → e.0 < k → IsOnCycle edges e → ⊥

-- what is an operand of the one edge leads to the other
pub record LeadsFrom (edges : List Edge) (b e : EdgeId) : Type 0 where
  pub each : (o : EdgeId) → Contains (operands_now edges b) o → LeadsTo edges o e

-- some edge of the network lies on a cycle
pub record IsCyclic (edges : List Edge) : Type 0 where
  pub edge : EdgeId
  pub within : edge.0 < length edges
  pub lies : IsOnCycle edges edge
