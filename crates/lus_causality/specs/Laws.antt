-- What is true of runs and orders, as statements.
use Rattle.std.specs.Prelude.{◌≡◌, ℕ, All, List, Some, length, take}
use Rattle.op_network.specs.declared.edge.Edge.{Edge}
use Rattle.op_network.specs.declared.edge.EdgeId.{EdgeId}
use Rattle.op_network.specs.declared.edge.Parts.{Parts}
use Rattle.op_network.specs.declared.value.Ty.{Ty}
use Rattle.op_network.specs.declared.value.Value.{Value}
use Rattle.op_network.specs.Operators.{at_edge}
use Rattle.op_network.specs.Run.{IsRun}
use Rattle.op_network.specs.Valid.{FitsRow, HasType, IsValid, type_of}
use Rattle.lus_causality.specs.Causality.{HasNoCycle, IsSequence}

-- a frame of these parts: a value for each edge, of its type
pub record IsFrameOf (parts : Parts) (frame : List Value) : Type 0 where
  pub size : length frame ≡ length parts.edges
  pub each : (e : EdgeId) (ty : Ty) → type_of parts.edges e ≡ Some ty
      → HasType parts (at_edge frame e) ty

-- without a cycle each list of rows of inputs has a run
abbrev pub SomeRun : Type 0
SomeRun = (parts : Parts) (rows : List (List Value)) → IsValid parts → HasNoCycle parts.edges
    → (frames : List (List Value)) × IsRun parts.width parts.edges rows frames

-- without a cycle it has no other run
abbrev pub OneRun : Type 0
OneRun = (parts : Parts) (rows a b : List (List Value)) → IsValid parts → HasNoCycle parts.edges
    → IsRun parts.width parts.edges rows a → IsRun parts.width parts.edges rows b → a ≡ b

-- without a cycle the frames of a run over rows that fit are frames of the parts
abbrev pub FramesHaveTypes : Type 0
FramesHaveTypes = (parts : Parts) (rows frames : List (List Value))
    → IsValid parts → HasNoCycle parts.edges → All (FitsRow parts) rows
    → IsRun parts.width parts.edges rows frames → All (IsFrameOf parts) frames

-- the run of a prefix of the rows is the prefix of the run
abbrev pub RunOfPrefix : Type 0
RunOfPrefix = (width : ℕ) (edges : List Edge) (k : ℕ) (rows frames : List (List Value))
    → IsRun width edges rows frames → IsRun width edges (take k rows) (take k frames)

-- there is at most one sequence
abbrev pub OneSequence : Type 0
OneSequence = (edges : List Edge) (a b : List EdgeId)
    → IsSequence edges a → IsSequence edges b → a ≡ b
