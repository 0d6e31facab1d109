-- Cycles of an instant, and the causal list in which each next edge is the least that can stand
-- there.
use Rattle.std.specs.Prelude.{◌≡◌, ℕ, ◌<◌, ◌≤◌, Bool, true, false, List, [], ◌∷◌, length, take, Option, Some, None, slice_get, Contains}
use Rattle.op_network.specs.declared.edge.EdgeId.{EdgeId}
use Rattle.op_network.specs.declared.edge.Edge.{Edge}
use Rattle.op_network.specs.declared.form.Form.{Form}
use Rattle.op_network.specs.declared.form.Form.TheVariants.{Pre}
use Rattle.op_network.specs.Operators.{form_of, operands_by}

-- the operator reads the instant before, and not its own
abbrev pub is_pre : Form → Bool
is_pre (Pre a) = true
is_pre _ = false

abbrev pub unless : Bool → List EdgeId → List EdgeId
unless true operands = []
unless false operands = operands

abbrev pub operands_now_by : Form → List EdgeId
operands_now_by form = unless (is_pre form) (operands_by form)

abbrev pub operands_now_in : Option Edge → List EdgeId
operands_now_in None = []
operands_now_in (Some edge) = operands_now_by (form_of edge.op)

-- the operands of an edge at the instant itself: all, but none of a `Pre`
abbrev pub operands_now : List Edge → EdgeId → List EdgeId
operands_now edges e = operands_now_in (slice_get edges e.0)

-- From a over the edges of the list to b, each is an operand of the next, and the next is no `Pre`.
abbrev pub Leads : List Edge → EdgeId → List EdgeId → EdgeId → Type 0
Leads edges a [] b = Contains (operands_now edges b) a
Leads edges a (c ∷ way) b = Contains (operands_now edges c) a × Leads edges c way b

-- A list of edges that returns to its first: each is an operand of the next, the last of the first,
-- and none that reads is a `Pre`.
abbrev pub IsCycle : List Edge → List EdgeId → Type 0
IsCycle edges [] = ⊥
IsCycle edges (e ∷ way) = Leads edges e way e

-- an edge lies on a cycle
abbrev pub IsOnCycle : List Edge → EdgeId → Type 0
IsOnCycle edges e = (cycle : List EdgeId) × IsCycle edges cycle × Contains cycle e

-- the least edge that lies on a cycle
pub record IsLeastOnCycle (edges : List Edge) (e : EdgeId) : Type 0 where
  pub lies : IsOnCycle edges e
  pub least : (other : EdgeId) → IsOnCycle edges other → e.0 ≤ other.0

-- an edge can stand next behind these: it is not among them, and its operands at the instant are
pub record CanStand (edges : List Edge) (before : List EdgeId) (e : EdgeId) : Type 0 where
  pub within : e.0 < length edges
  pub new : Contains before e → ⊥
  pub operands : (o : EdgeId) → Contains (operands_now edges e) o → Contains before o

-- A causal list: edges, each at most once, in which each stands behind its operands at the instant.
abbrev pub IsCausal : List Edge → List EdgeId → Type 0
IsCausal edges list = (i : ℕ) (e : EdgeId) → slice_get list i ≡ Some e
    → CanStand edges (take i list) e

-- all edges are there
abbrev pub IsFull : List Edge → List EdgeId → Type 0
IsFull edges list = (e : EdgeId) → e.0 < length edges → Contains list e

-- the least edge that can stand next behind these
pub record IsLeast (edges : List Edge) (before : List EdgeId) (e : EdgeId) : Type 0 where
  pub stands : CanStand edges before e
  pub least : (other : EdgeId) → CanStand edges before other → e.0 ≤ other.0

-- at each place stands the least edge that can: so the list is causal
abbrev pub IsLeastFirst : List Edge → List EdgeId → Type 0
IsLeastFirst edges list = (i : ℕ) (e : EdgeId) → slice_get list i ≡ Some e
    → IsLeast edges (take i list) e

-- the full causal list in which each next edge is the least that can stand there
pub record IsSequence (edges : List Edge) (sequence : List EdgeId) : Type 0 where
  pub least : IsLeastFirst edges sequence
  pub full : IsFull edges sequence

-- no edge lies on a cycle
pub record HasNoCycle (edges : List Edge) : Type 0 where
  pub none : (e : EdgeId) → IsOnCycle edges e → ⊥
