-- What is true of steps and firings, as statements.
use Rattle.std.specs.Prelude.{◌≡◌, ◌≤◌, ℕ, All, List, Some, true, false, length, take, replicate, slice_get}
use Rattle.op_network.specs.declared.edge.Edge.{Edge}
use Rattle.op_network.specs.declared.edge.EdgeId.{EdgeId}
use Rattle.op_network.specs.declared.edge.Parts.{Parts}
use Rattle.op_network.specs.declared.value.Value.{Value}
use Rattle.op_network.specs.Admissible.{AssertsHold, IsKept}
use Rattle.op_network.specs.Run.{IsRun}
use Rattle.op_network.specs.Valid.{IsValid}
use Rattle.lus_causality.specs.Causality.{HasNoCycle, IsCausal, IsFull}
use Rattle.lus_causality.specs.Marks.{IsFree, AreAllMarked}
use Rattle.stream_run.specs.Firings.{Fired, FiringStandsFor, IsFinished, IsFiringOf, IsReady, fired_marks}
use Rattle.stream_run.specs.Runs.{Running, StandsFor}

-- an instant of a firing of these parts is open, and not finished
pub record IsUnfinished (parts : Parts) (firing : Fired) : Type 0 where
  pub of : IsFiringOf parts firing
  pub is_open : firing.under_way ≡ true
  pub unfinished : IsFinished firing → ⊥

-- in a network without a cycle an open instant that is not finished has a ready edge
abbrev pub SomeEdgeIsReady : Type 0
SomeEdgeIsReady = (parts : Parts) (firing : Fired) → IsValid parts → HasNoCycle parts.edges
    → IsUnfinished parts firing → (e : EdgeId) × IsReady parts.edges firing e

-- a runner and a firing stand for the same rows, and an instant of the firing ended with this frame
pub record StandTogether (parts : Parts) (rows : List (List Value)) (runner : Running)
    (firing : Fired) (frame : List Value) : Type 0 where
  pub stepped : StandsFor parts rows runner
  pub fired : FiringStandsFor parts rows firing
  pub closed : firing.under_way ≡ false
  pub ended : firing.ended ≡ Some frame

-- then in a network without a cycle the interpreter's step has the same frame
abbrev pub SameFrame : Type 0
SameFrame = (parts : Parts) (rows : List (List Value)) (runner : Running) (firing : Fired)
    (frame : List Value) → IsValid parts → HasNoCycle parts.edges
    → StandTogether parts rows runner firing frame → runner.frame ≡ frame

-- in an instant in which no edge is fired yet each edge of a causal list is ready once those before
-- it are fired
abbrev pub CausalListIsReady : Type 0
CausalListIsReady = (edges : List Edge) (list : List EdgeId) (i : ℕ) (e : EdgeId)
    → IsCausal edges list → slice_get list i ≡ Some e
    → IsFree edges (fired_marks (take i list) (replicate (length edges) false)) e

-- once the edges of a full causal list are fired the instant is finished
abbrev pub FullListFinishes : Type 0
FullListFinishes = (edges : List Edge) (list : List EdgeId)
    → IsFull edges list → AreAllMarked (fired_marks list (replicate (length edges) false))

-- the assertions hold in the frames before a place, and fail in the one that stands there, if any
pub record HoldBefore (parts : Parts) (frames : List (List Value)) (n : ℕ) : Type 0 where
  pub within : n ≤ length frames
  pub hold : All (AssertsHold parts) (take n frames)
  pub fail : (frame : List Value) → slice_get frames n ≡ Some frame → AssertsHold parts frame → ⊥

-- in a network without a cycle that place in the run is the length of the longest admissible prefix
abbrev pub KeptByAsserts : Type 0
KeptByAsserts = (parts : Parts) (rows frames : List (List Value)) (n : ℕ)
    → IsValid parts → HasNoCycle parts.edges → IsRun parts.width parts.edges rows frames
    → HoldBefore parts frames n → IsKept parts rows n

-- it has one length
abbrev pub OneKept : Type 0
OneKept = (parts : Parts) (rows : List (List Value)) (m n : ℕ)
    → IsKept parts rows m → IsKept parts rows n → m ≡ n
