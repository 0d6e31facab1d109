-- What `Tags` keeps, for which network and plan it was made, and for which frames it stands.
use Rattle.std.specs.Prelude.{◌≡◌, ◌<◌, ◌+◌, ◌*◌, ◌↔◌, ℕ, Bool, true, false, IsTrue, List, [], ◌∷◌, ◌++◌, Option, Some, None, length, slice_get, slice_index_or}
use Rattle.op_network.specs.declared.edge.Edge.{Edge}
use Rattle.op_network.specs.declared.edge.EdgeId.{EdgeId}
use Rattle.op_network.specs.declared.edge.Parts.{Parts}
use Rattle.op_network.specs.declared.value.Value.{Value}
use Rattle.op_network.specs.declared.value.Value.TheVariants.{Truth}
use Rattle.op_network.specs.Operators.{at_edge}
use Rattle.dep_paths.specs.declared.path.Condition.{Condition}
use Rattle.dep_paths.specs.Activation.{Frames, frame_at}
use Rattle.dep_paths.specs.Conditions.{operand_at}
use Rattle.dep_paths.specs.Duties.{Planned}
use Rattle.dep_paths.specs.Observed.{IsObserved, ReachesEdge}

-- ---- sets of conditions with values, as rows of bits

-- the bit of the port at place i with a value
abbrev pub bit_of_tag : ℕ → Bool → ℕ
bit_of_tag i true = 2 * i
bit_of_tag i false = 2 * i + 1

abbrev pub has_bit : List Bool → ℕ → Bool
has_bit row k = slice_index_or row k false

abbrev pub row_at : List (List Bool) → EdgeId → List Bool
row_at rows e = slice_index_or rows e.0 []

-- ---- what is kept

-- For each edge, and for the outputs together, a set of ports with values; for each port which value its operand
-- has; and whether a frame was taken.
pub record Sets : Type 0 where
  pub reached : List (List Bool)
  pub observed : List Bool
  pub values : List Bool
  pub begun : Bool

-- the different ports that are conditions, for each condition of a plan the place of its port among them, and the sets
pub record Kept : Type 0 where
  pub ports : List Condition
  pub places : List (Option ℕ)
  pub sets : Sets

-- ---- for which network and plan

-- the place of a condition among the ports: none if no edge has that port
abbrev pub IsPlace : Option EdgeId → List Condition → Condition → Option ℕ → Type 0
IsPlace None ports c place = place ≡ None
IsPlace (Some a) ports c None = ⊥
IsPlace (Some a) ports c (Some k) = slice_get ports k ≡ Some c

pub record HasPlace (edges : List Edge) (ports : List Condition) (places : List (Option ℕ)) (i : ℕ) (c : Condition) : Type 0 where
  pub place : Option ℕ
  pub there : slice_get places i ≡ Some place
  pub is_place : IsPlace (operand_at edges c) ports c place

-- it was made for these edges and these conditions: each edge has a set, and each condition its place
pub record IsMadeOver (edges : List Edge) (conditions : List Condition) (kept : Kept) : Type 0 where
  pub sets : length kept.sets.reached ≡ length edges
  pub size : length kept.places ≡ length conditions
  pub places : (i : ℕ) (c : Condition) → slice_get conditions i ≡ Some c → HasPlace edges kept.ports kept.places i c

-- it was made for this network and this plan
abbrev pub IsMadeFor : Parts → Planned → Kept → Type 0
IsMadeFor net plan kept = IsMadeOver net.edges plan.conditions kept

-- ---- for which frames

-- each set of an edge that is done has the ports with values that reach the edge at t
pub record RowsTell (edges : List Edge) (ports : List Condition) (frames : Frames) (t : ℕ) (Done : EdgeId → Type 0) (rows : List (List Bool)) : Type 0 where
  pub each : (i : ℕ) (c : Condition) (v : Bool) (e : EdgeId) → slice_get ports i ≡ Some c → Done e
      → (has_bit (row_at rows e) (bit_of_tag i v) ≡ true) ↔ ReachesEdge edges frames (record { condition = c; value = v }) e t

abbrev pub AreReached : List Edge → List Condition → Frames → ℕ → List (List Bool) → Type 0
AreReached edges ports frames t rows = RowsTell edges ports frames t (λ e. e.0 < length edges) rows

-- the set has the ports with values that are observed at t
pub record AreObserved (net : Parts) (ports : List Condition) (frames : Frames) (t : ℕ) (row : List Bool) : Type 0 where
  pub each : (i : ℕ) (c : Condition) (v : Bool) → slice_get ports i ≡ Some c
      → (has_bit row (bit_of_tag i v) ≡ true) ↔ IsObserved net frames (record { condition = c; value = v }) t

-- the operand of the port has the value in this frame
pub record OperandHas (edges : List Edge) (frame : List Value) (v : Bool) (port : Condition) : Type 0 where
  pub operand : EdgeId
  pub read : operand_at edges port ≡ Some operand
  pub has : at_edge frame operand ≡ Truth v

-- for each port and value, whether the operand has it in this frame
pub record AreValues (edges : List Edge) (ports : List Condition) (frame : List Value) (values : List Bool) : Type 0 where
  pub each : (i : ℕ) (c : Condition) (v : Bool) → slice_get ports i ≡ Some c → (has_bit values (bit_of_tag i v) ≡ true) ↔ OperandHas edges frame v c

-- at the last instant t of these frames the sets are those of its chains, and the values those of its frame
pub record TellLast (net : Parts) (ports : List Condition) (frames : Frames) (sets : Sets) (t : ℕ) : Type 0 where
  pub last : length frames ≡ t + 1
  pub reached : AreReached net.edges ports frames t sets.reached
  pub observed : AreObserved net ports frames t sets.observed
  pub values : AreValues net.edges ports (frame_at frames t) sets.values

pub record SetsStandFor (net : Parts) (ports : List Condition) (frames : Frames) (sets : Sets) : Type 0 where
  pub empty : sets.begun ≡ false → frames ≡ []
  pub tell : sets.begun ≡ true → (t : ℕ) × TellLast net ports frames sets t

-- It stands for these frames: it knows whether there is one, and what it keeps are the sets and values at the last.
abbrev pub StandsFor : Parts → Frames → Kept → Type 0
StandsFor net frames kept = SetsStandFor net kept.ports frames kept.sets

-- what stood for a list of frames stands for it with one frame more
abbrev pub StepsBy : Parts → List Value → Kept → Kept → Type 0
StepsBy net frame old new = (frames : Frames) → StandsFor net frames old → StandsFor net (frames ++ frame ∷ []) new

-- so it does by its sets
abbrev pub SetsStepBy : Parts → List Condition → List Value → Sets → Sets → Type 0
SetsStepBy net ports frame old new = (frames : Frames) → SetsStandFor net ports frames old → SetsStandFor net ports (frames ++ frame ∷ []) new

-- the answer is whether a condition, by its place in the plan, is observed with a value at the last instant
abbrev pub TellsObserved : Kept → ℕ → Bool → Bool → Type 0
TellsObserved kept i v answer = (net : Parts) (plan : Planned) (frames : Frames) (t : ℕ) (c : Condition) → IsMadeFor net plan kept → StandsFor net frames kept → length frames ≡ t + 1
    → slice_get plan.conditions i ≡ Some c → IsTrue answer ↔ IsObserved net frames (record { condition = c; value = v }) t
