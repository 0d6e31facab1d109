-- What a `Firing` stands for.
use Rattle.std.specs.Prelude.{◌≡◌, Bool, true, false, List, [], ◌∷◌, ◌++◌, length, Option, Some, None, slice_get, slice_set}
use Rattle.op_network.specs.declared.edge.EdgeId.{EdgeId}
use Rattle.op_network.specs.declared.edge.Edge.{Edge}
use Rattle.op_network.specs.declared.edge.Parts.{Parts}
use Rattle.op_network.specs.declared.value.Value.{Value}
use Rattle.op_network.specs.Run.{IsFrame, IsRun}
use Rattle.op_network.specs.Valid.{IsValid}
use Rattle.lus_causality.specs.Causality.{HasNoCycle}
use Rattle.lus_causality.specs.Marks.{IsMarked, AreAllMarked, IsFree}
use Rattle.stream_run.specs.Runs.{last_after}

-- The frame of the last ended instant, if one ended; whether an instant is open; in an open instant
-- its inputs, and the values of the edges fired, which are marked. Other values are any.
pub record Fired : Type 0 where
  pub ended : Option (List Value)
  pub under_way : Bool
  pub inputs : List Value
  pub values : List Value
  pub marks : List Bool

-- the frame of the last ended instant, if one ended
abbrev pub ended_frame : Bool → List Value → Option (List Value)
ended_frame true frame = Some frame
ended_frame false frame = None

-- it is of the size of this network
pub record IsFiringOf (parts : Parts) (firing : Fired) : Type 0 where
  pub values : length firing.values ≡ length parts.edges
  pub inputs : length firing.inputs ≡ length parts.inputs
  pub marks : length firing.marks ≡ length parts.edges

-- an edge was fired in the open instant
pub record HasFired (firing : Fired) (e : EdgeId) : Type 0 where
  pub is_open : firing.under_way ≡ true
  pub marked : IsMarked firing.marks e

-- its value in the open instant
pub record IsValueFired (firing : Fired) (e : EdgeId) (value : Value) : Type 0 where
  pub fired : HasFired firing e
  pub is : slice_get firing.values e.0 ≡ Some value

-- its value in the last of these frames
abbrev pub IsValueOf : List (List Value) → EdgeId → Value → Type 0
IsValueOf frames e value = (frame : List Value) → last_after None frames ≡ Some frame
    → slice_get frame e.0 ≡ Some value

-- an instant is open, the edge is not fired in it, and its operands are, but for that of a `Pre`
pub record IsReady (edges : List Edge) (firing : Fired) (e : EdgeId) : Type 0 where
  pub is_open : firing.under_way ≡ true
  pub free : IsFree edges firing.marks e

-- an instant is open, and all edges are fired in it
pub record IsFinished (firing : Fired) : Type 0 where
  pub is_open : firing.under_way ≡ true
  pub all : AreAllMarked firing.marks

-- the values of the marked edges are those of a frame
pub record AreOf (frame values : List Value) (marks : List Bool) : Type 0 where
  pub size : length values ≡ length frame
  pub marked : length marks ≡ length frame
  pub each : (e : EdgeId) → IsMarked marks e → slice_get values e.0 ≡ slice_get frame e.0

-- an instant is open over the last row of inputs, behind the frames of those before it
pub record IsOpen (parts : Parts) (rows : List (List Value)) (firing : Fired) : Type 0 where
  pub before : List (List Value)
  pub frames : List (List Value)
  pub frame : List Value
  pub rows_are : rows ≡ before ++ firing.inputs ∷ []
  pub run : IsRun parts.width parts.edges before frames
  pub ended : firing.ended ≡ last_after None frames
  pub is_frame : IsFrame parts.width parts.edges firing.ended firing.inputs frame
  pub values : AreOf frame firing.values firing.marks

-- no instant is open, and the frame of the last one is that of the run
pub record IsClosed (parts : Parts) (rows : List (List Value)) (firing : Fired) : Type 0 where
  pub frames : List (List Value)
  pub run : IsRun parts.width parts.edges rows frames
  pub ended : firing.ended ≡ last_after None frames

abbrev pub FiringStandsForIn : Bool → Parts → List (List Value) → Fired → Type 0
FiringStandsForIn true parts rows firing = IsOpen parts rows firing
FiringStandsForIn false parts rows firing = IsClosed parts rows firing

-- The firing stands for these rows of inputs: the last is that of the open instant, if there is
-- one, the values of the edges fired in it and those of the last ended instant are those of the
-- run.
abbrev pub FiringStandsFor : Parts → List (List Value) → Fired → Type 0
FiringStandsFor parts rows firing = FiringStandsForIn firing.under_way parts rows firing

-- In a network without a cycle the value is that of the run over the rows for which it stands.
abbrev pub IsValueOfRun : Parts → Fired → EdgeId → Value → Type 0
IsValueOfRun parts firing e value = IsValid parts → HasNoCycle parts.edges
    → (rows frames : List (List Value)) → FiringStandsFor parts rows firing
    → IsRun parts.width parts.edges rows frames → IsValueOf frames e value

-- the marks after these edges are fired, one behind the other
abbrev pub fired_marks : List EdgeId → List Bool → List Bool
fired_marks [] marks = marks
fired_marks (e ∷ list) marks = fired_marks list (slice_set marks e.0 true)
