-- The run of a network: a frame for each instant, in which each edge has the value of its operator.
use Rattle.std.specs.Prelude.{◌≡◌, ℕ, zero, suc, List, [], ◌∷◌, length, take, drop, Option, Some, None, slice_get}
use Rattle.op_network.specs.declared.edge.Edge.{Edge}
use Rattle.op_network.specs.declared.value.Value.{Value}
use Rattle.op_network.specs.Operators.{operator_value}

-- A frame of one instant of a network whose words have this width, behind the frame of the instant
-- before, over the values of the inputs.
pub record IsFrame (width : ℕ) (edges : List Edge) (before : Option (List Value)) (inputs now : List Value) : Type 0 where
  pub size : length now ≡ length edges
  pub values : (e : ℕ) (edge : Edge) → slice_get edges e ≡ Some edge → slice_get now e ≡ Some (operator_value width edge.op edge.ty before now inputs)

-- frames, one for each instant of the inputs, behind the frame of the instant before
abbrev pub IsRunAfter : ℕ → List Edge → Option (List Value) → List (List Value) → List (List Value) → Type 0
IsRunAfter width edges before [] [] = Unit {0}
IsRunAfter width edges before [] (frame ∷ frames) = ⊥
IsRunAfter width edges before (inputs ∷ rows) [] = ⊥
IsRunAfter width edges before (inputs ∷ rows) (frame ∷ frames) = IsFrame width edges before inputs frame × IsRunAfter width edges (Some frame) rows frames

-- the run over a list of input rows, one for each instant
abbrev pub IsRun : ℕ → List Edge → List (List Value) → List (List Value) → Type 0
IsRun width edges rows frames = IsRunAfter width edges None rows frames

-- the rows of a test: its values cut into so many rows of one length
abbrev pub rows : ℕ → ℕ → List Value → List (List Value)
rows count zero values = []
rows count (suc instants) values = take count values ∷ rows count instants (drop count values)
