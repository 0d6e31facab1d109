-- What is taken so far, and which edges are ready.
use Rattle.std.specs.Prelude.{AllPairs, Contains, ◌≡◌, ◌≢◌, ◌⊎◌, ℕ, ◌<◌, Bool, List, [], length}
use Rattle.op_network.specs.declared.edge.EdgeId.{EdgeId}
use Rattle.op_network.specs.declared.edge.Edge.{Edge}
use Rattle.lus_causality.specs.declared.sequence.Taken.{Taken}
use Rattle.lus_causality.specs.Causality.{operands_now, IsLeastFirst}
use Rattle.lus_causality.specs.Marks.{IsMarked, IsFree}

-- nothing is taken yet
abbrev pub none_taken : List Bool → Taken
none_taken marks = record { sequence = []; marks = marks }

-- an edge is added to the ready ones if it is free
pub record IsOffered (edges : List Edge) (marks : List Bool) (old : List ℕ) (e : EdgeId)
    (new : List ℕ) : Type 0 where
  pub each : (q : ℕ) → Contains new q → Contains old q ⊎ ((q ≡ e.0) × IsFree edges marks e)
  pub kept : (q : ℕ) → Contains old q → Contains new q
  pub added : IsFree edges marks e → Contains new e.0

-- the edges taken, each the least that could stand, and their marks
pub record IsTakenList (edges : List Edge) (taken : Taken) : Type 0 where
  pub size : length taken.marks ≡ length edges
  pub marked : (e : EdgeId) → Contains taken.sequence e → IsMarked taken.marks e
  pub taken_at : (e : EdgeId) → IsMarked taken.marks e → Contains taken.sequence e
  pub within : (e : EdgeId) → Contains taken.sequence e → e.0 < length edges
  pub least : IsLeastFirst edges taken.sequence
  pub distinct : AllPairs (λ (a b : EdgeId). a ≢ b) taken.sequence

-- exactly the free edges are ready
pub record IsTaking (edges : List Edge) (taken : Taken) (ready : List ℕ) : Type 0 where
  pub list : IsTakenList edges taken
  pub each : (q : ℕ) → Contains ready q → IsFree edges taken.marks (record { 0 = q })
  pub all : (f : EdgeId) → IsFree edges taken.marks f → Contains ready f.0

-- exactly the free edges are ready, but for some that read an edge
pub record IsTakingBut (edges : List Edge) (taken : Taken) (e : EdgeId)
    (ready : List ℕ) : Type 0 where
  pub list : IsTakenList edges taken
  pub each : (q : ℕ) → Contains ready q → IsFree edges taken.marks (record { 0 = q })
  pub all : (f : EdgeId) → IsFree edges taken.marks f
      → Contains ready f.0 ⊎ Contains (operands_now edges f) e

-- no edge is free
pub record IsStuck (edges : List Edge) (taken : Taken) : Type 0 where
  pub list : IsTakenList edges taken
  pub none : (f : EdgeId) → IsFree edges taken.marks f → ⊥
