-- How the flags of an instant follow from its frame and the flags of the instant before. These words
-- are for the proofs; no public clause cites them.
use Rattle.std.specs.Prelude.{◌≡◌, ◌<◌, ℕ, zero, suc, Bool, true, false, not, if◌then◌else◌, List, Option, Some, None, length, slice_get, slice_index_or}
use Rattle.std.specs.Option.{ForSome}
use Rattle.op_network.specs.declared.edge.Edge.{Edge}
use Rattle.op_network.specs.declared.edge.EdgeId.{EdgeId}
use Rattle.op_network.specs.declared.form.Form.{Form}
use Rattle.op_network.specs.declared.form.Form.TheVariants.{Arrow, Pre}
use Rattle.op_network.specs.declared.value.Value.{Value}
use Rattle.op_network.specs.Operators.{at_edge, form_of, step_by}
use Rattle.dep_paths.specs.Activation.{has_truth}
use Rattle.activation.specs.declared.passage.Passage.{Passage}
use Rattle.activation.specs.declared.passage.Passage.TheVariants.{Shut, Now, Earlier}
use Rattle.activation.specs.declared.tree.Gate.{Gate}
use Rattle.activation.specs.declared.tree.Node.{Node}

-- the flag behind a passage, from the flags before it at this instant and at the one before
abbrev pub flag_by : Passage → Bool → Bool → Bool
flag_by Shut now earlier = false
flag_by Now now earlier = now
flag_by Earlier now earlier = earlier

abbrev pub passage_if : Bool → Passage
passage_if true = Now
passage_if false = Shut

-- through a port of an operator
abbrev pub passage_by : Form → ℕ → List Value → Bool → Passage
passage_by (Arrow a b) zero frame begun = passage_if (not begun)
passage_by (Arrow a b) (suc port) frame begun = passage_if begun
passage_by (Pre a) port frame begun = if begun then Earlier else Shut
passage_by form port frame begun = passage_if (step_by form port frame)

-- into an edge: by a port, or as the start of a path
abbrev pub passage_into : Option ℕ → Option Edge → List Value → Bool → Passage
passage_into None edge frame begun = Now
passage_into (Some port) None frame begun = Shut
passage_into (Some port) (Some edge) frame begun = passage_by (form_of edge.op) port frame begun

-- the edge has the truth that is asked of it
abbrev pub is_allowed : Option Bool → List Value → EdgeId → Bool
is_allowed None frame e = true
is_allowed (Some truth) frame e = has_truth truth (at_edge frame e)

abbrev pub passage_of : List Edge → List Value → Bool → Gate → Passage
passage_of edges frame begun gate = if is_allowed gate.pin frame (record { 0 = gate.edge })
    then passage_into gate.port (slice_get edges gate.edge) frame begun else Shut

-- each of the first gates has its passage
pub record ArePassagesBelow (n : ℕ) (edges : List Edge) (frame : List Value) (begun : Bool)
    (gates : List Gate) (passages : List Passage) : Type 0 where
  pub each : (i : ℕ) (gate : Gate) → i < n → slice_get gates i ≡ Some gate
      → slice_get passages i ≡ Some (passage_of edges frame begun gate)

-- each gate has its passage
pub record ArePassages (edges : List Edge) (frame : List Value) (begun : Bool)
    (gates : List Gate) (passages : List Passage) : Type 0 where
  pub each : (i : ℕ) (gate : Gate) → slice_get gates i ≡ Some gate
      → slice_get passages i ≡ Some (passage_of edges frame begun gate)

abbrev pub parent_flag : List Bool → Option ℕ → Bool
parent_flag flags None = true
parent_flag flags (Some i) = slice_index_or flags i false

-- the flag of a node
abbrev pub flag_of : List Passage → List Bool → List Bool → Node → Bool
flag_of passages before flags node = flag_by (slice_index_or passages node.gate Shut)
    (parent_flag flags node.parent) (parent_flag before node.parent)

-- a node's gate is there, and its parent stands before it
pub record IsInPlace (gates i : ℕ) (node : Node) : Type 0 where
  pub gate : node.gate < gates
  pub parent : ForSome node.parent (λ parent. parent < i)

-- each node has its gate, and stands behind its parent
pub record AreInPlace (gates : ℕ) (nodes : List Node) : Type 0 where
  pub each : (i : ℕ) (node : Node) → slice_get nodes i ≡ Some node → IsInPlace gates i node

-- the first flags are those of their nodes
pub record AreFlagsBelow (n : ℕ) (nodes : List Node) (passages : List Passage)
    (before flags : List Bool) : Type 0 where
  pub each : (i : ℕ) (node : Node) → i < n → slice_get nodes i ≡ Some node
      → slice_get flags i ≡ Some (flag_of passages before flags node)

-- each flag is that of its node
pub record AreFlags (nodes : List Node) (passages : List Passage) (before flags : List Bool) : Type 0
  where
    pub each : (i : ℕ) (node : Node) → slice_get nodes i ≡ Some node
        → slice_get flags i ≡ Some (flag_of passages before flags node)

-- the flag of an obligation's node
abbrev pub goal_flag : List Bool → Option ℕ → Bool
goal_flag flags None = false
goal_flag flags (Some i) = slice_index_or flags i false

-- the lists have one entry for each gate or node
pub record IsSized (gates : List Gate) (nodes : List Node) (passages : List Passage)
    (before flags : List Bool) : Type 0 where
  pub place : AreInPlace (length gates) nodes
  pub passages_size : length passages ≡ length gates
  pub before_size : length before ≡ length nodes
  pub flags_size : length flags ≡ length nodes
