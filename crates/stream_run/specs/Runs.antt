-- What a `Runner` stands for.
use Rattle.std.specs.Prelude.{◌≡◌, ℕ, zero, suc, List, [], ◌∷◌, ◌++◌, length, Option, Some, None, slice_get, slice_set}
use Rattle.op_network.specs.declared.edge.Edge.{Edge}
use Rattle.op_network.specs.declared.edge.EdgeId.{EdgeId}
use Rattle.op_network.specs.declared.edge.Parts.{Parts}
use Rattle.op_network.specs.declared.value.Value.{Value}
use Rattle.op_network.specs.Operators.{operator_value}
use Rattle.op_network.specs.Run.{IsRun}

-- the instants done, and the frame of the last one; before the first the frame has any values
pub record Running : Type 0 where
  pub instant : ℕ
  pub frame : List Value

-- the last of these frames, or the one before them
abbrev pub last_after : Option (List Value) → List (List Value) → Option (List Value)
last_after before [] = before
last_after before (frame ∷ frames) = last_after (Some frame) frames

-- It did one instant for each row of inputs, and its frame is the last of the run over them.
pub record StandsFor (parts : Parts) (rows : List (List Value)) (runner : Running) : Type 0 where
  pub frames : List (List Value)
  pub run : IsRun parts.width parts.edges rows frames
  pub instant : runner.instant ≡ length rows
  pub last : (frame : List Value) → last_after None frames ≡ Some frame → runner.frame ≡ frame

-- what stood for a list of rows stands for it with one row more
abbrev pub Extends : {A : Type 0} → (List (List Value) → A → Type 0) → List Value → A → A → Type 0
Extends Stands inputs old new = (rows : List (List Value)) → Stands rows old
    → Stands (rows ++ inputs ∷ []) new

-- what stood for a list of rows stands for it
abbrev pub Keeps : {A : Type 0} → (List (List Value) → A → Type 0) → A → A → Type 0
Keeps Stands old new = (rows : List (List Value)) → Stands rows old → Stands rows new

-- the value of an edge is set to that of its operator
abbrev pub IsComputed : ℕ → List Edge → EdgeId → Option (List Value) → List Value → List Value
    → List Value → Type 0
IsComputed width edges e before inputs old new = (edge : Edge) → slice_get edges e.0 ≡ Some edge
    → new ≡ slice_set old e.0 (operator_value width edge.op edge.ty before old inputs)

-- the frame of the instant before, if there was one
abbrev pub past : ℕ → List Value → Option (List Value)
past zero frame = None
past (suc instants) frame = Some frame
