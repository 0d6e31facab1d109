-- When a condition with a value is observed (after Whalen, Gay, You, Heimdahl and Staats).
use Rattle.std.specs.Prelude.{◌≡◌, ◌⊎◌, ◌↔◌, ℕ, ◌+◌, Bool, true, false, cond, List, [], ◌∷◌, Some, slice_get}
use Rattle.std.specs.List.{All, Contains}
use Rattle.std.specs.Option.{option_map_or}
use Rattle.op_network.specs.declared.edge.Edge.{Edge}
use Rattle.op_network.specs.declared.edge.EdgeId.{EdgeId}
use Rattle.op_network.specs.declared.edge.Parts.{Parts}
use Rattle.op_network.specs.declared.form.Form.{Form}
use Rattle.op_network.specs.declared.form.Form.TheVariants.{Pre}
use Rattle.op_network.specs.declared.value.Value.TheVariants.{Truth}
use Rattle.op_network.specs.Operators.{at_edge, form_of, is_unmasked}
use Rattle.dep_paths.specs.declared.path.Condition.{Condition}
use Rattle.dep_paths.specs.Activation.{Frames, frame_at}
use Rattle.dep_paths.specs.Conditions.{operand_at}

-- a condition, which is a port, and a value
pub record Tag : Type 0 where
  pub condition : Condition
  pub value : Bool

-- a port and an instant
pub record PortAt : Type 0 where
  pub port : Condition
  pub instant : ℕ

-- the operand of the port has the value at the instant
pub record HasValue (edges : List Edge) (frames : Frames) (value : Bool) (at : PortAt) : Type 0 where
  pub operand : EdgeId
  pub read : operand_at edges at.port ≡ Some operand
  pub has : at_edge (frame_at frames at.instant) operand ≡ Truth value

-- the port is unmasked at its instant
pub record IsUnmasked (edges : List Edge) (frames : Frames) (at : PortAt) : Type 0 where
  pub edge : Edge
  pub there : slice_get edges at.port.edge.0 ≡ Some edge
  pub unmasked : is_unmasked edge.op at.port.port (frame_at frames at.instant) at.instant ≡ true

-- whether an operator is `Pre`
abbrev pub is_pre : Form → Bool
is_pre (Pre a) = true
is_pre _ = false

-- whether an edge is
abbrev pub is_pre_edge : List Edge → EdgeId → Bool
is_pre_edge edges e = option_map_or (λ (edge : Edge). is_pre (form_of edge.op)) (slice_get edges e.0) false

-- the instant after a port of the edge: after `Pre` one later, and after any other the same
abbrev pub instant_after : List Edge → EdgeId → ℕ → ℕ
instant_after edges e t = cond (is_pre_edge edges e) (t + 1) t

abbrev pub after : List Edge → PortAt → ℕ
after edges at = instant_after edges at.port.edge at.instant

-- the next port reads the edge of the port before, at the instant after it
pub record Follows (edges : List Edge) (before next : PortAt) : Type 0 where
  pub reads : operand_at edges next.port ≡ Some before.port.edge
  pub instant : next.instant ≡ after edges before

-- each next one follows
abbrev pub AllFollow : List Edge → PortAt → List PortAt → Type 0
AllFollow edges first [] = Unit {0}
AllFollow edges first (next ∷ rest) = Follows edges first next × AllFollow edges next rest

abbrev pub last : PortAt → List PortAt → PortAt
last first [] = first
last first (next ∷ rest) = last next rest

-- A condition with a value reaches an edge at t: there is a list of pairs of a port and an instant. The
-- first port is the condition, and its operand has the value at the first instant. Each port is unmasked
-- at its instant. Each next port reads the edge of the port before, at the instant after it. The edge of
-- the last port is the edge, and the instant after the last pair is t.
pub record ReachesEdge (edges : List Edge) (frames : Frames) (tag : Tag) (e : EdgeId) (t : ℕ) : Type 0 where
  pub first : PortAt
  pub rest : List PortAt
  pub starts : first.port ≡ tag.condition
  pub value : HasValue edges frames tag.value first
  pub unmasked : All (IsUnmasked edges frames) (first ∷ rest)
  pub follow : AllFollow edges first rest
  pub edge : (last first rest).port.edge ≡ e
  pub instant : after edges (last first rest) ≡ t

-- A condition with a value is observed at t: it reaches an output at t.
pub record IsObserved (net : Parts) (frames : Frames) (tag : Tag) (t : ℕ) : Type 0 where
  pub output : EdgeId
  pub listed : Contains net.outputs output
  pub reaches : ReachesEdge net.edges frames tag output t

-- ---- what passes a port

-- what comes to a port: it is the condition and its operand has the value, or its operand is reached
abbrev pub Comes : List Edge → Frames → Tag → PortAt → Type 0
Comes edges frames tag at = ((at.port ≡ tag.condition) × HasValue edges frames tag.value at)
    ⊎ ((a : EdgeId) × (operand_at edges at.port ≡ Some a) × ReachesEdge edges frames tag a at.instant)

-- a port through which an edge is reached at t: it is unmasked, and the condition with the value
-- comes to it
pub record LastPort (edges : List Edge) (frames : Frames) (tag : Tag) (e : EdgeId) (t : ℕ)
    : Type 0 where
  pub at : PortAt
  pub edge : at.port.edge ≡ e
  pub instant : after edges at ≡ t
  pub unmasked : IsUnmasked edges frames at
  pub comes : Comes edges frames tag at

-- what is reached is reached through a last port, and the other way
abbrev pub ReachIsPassedOn : Type 0
ReachIsPassedOn = (edges : List Edge) (frames : Frames) (tag : Tag) (e : EdgeId) (t : ℕ)
    → ReachesEdge edges frames tag e t ↔ LastPort edges frames tag e t
