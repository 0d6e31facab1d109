-- The tree of path prefixes with their pins. Prefixes that agree share their nodes.
use Rattle.std.specs.Prelude.{◌≡◌, ◌<◌, ◌≤◌, ◌==◌, ℕ, zero, suc, Bool, List, Option, Some, None, if◌then◌else◌, slice_get}
use Rattle.activation.specs.declared.tree.Gate.{Gate}
use Rattle.activation.specs.declared.tree.Node.{Node}
use Rattle.dep_paths.specs.declared.path.Path.{Path}
use Rattle.dep_paths.specs.declared.path.Pin.{Pin}
use Rattle.dep_paths.specs.declared.path.Step.{Step}

-- a node is one edge of a path: its gate, by place, and the node of the edge before it, if there is one
pub record Tree : Type 0 where
  pub gates : List Gate
  pub nodes : List Node

-- what a pin asks of the edge at a place of a path
abbrev pub pin_at : Option Pin → ℕ → Option Bool
pin_at None place = None
pin_at (Some pin) place = if place == pin.place then Some pin.value else None

-- where a path starts, with what is asked there
abbrev pub start_gate : Path → Option Pin → Gate
start_gate p pin = record { edge = p.start.0; port = None; pin = pin_at pin 0 }

-- how a step enters its edge, with what is asked at its place
abbrev pub step_gate : Step → Option Pin → ℕ → Gate
step_gate s pin place = record { edge = s.edge.0; port = Some s.port; pin = pin_at pin place }

-- the node at this place has this gate, and this node before it
pub record HasNode (tree : Tree) (i : ℕ) (gate : Gate) (parent : Option ℕ) : Type 0 where
  pub gate_place : ℕ
  pub there : slice_get tree.nodes i ≡ Some (record { gate = gate_place; parent = parent })
  pub has_gate : slice_get tree.gates gate_place ≡ Some gate

-- the node at this place has the gate of a step, and before it a node of which `Before` holds
pub record HasStep (tree : Tree) (steps : List Step) (pin : Option Pin) (k : ℕ)
    (Before : ℕ → Type 0) (i : ℕ) : Type 0 where
  pub step : Step
  pub parent : ℕ
  pub taken : slice_get steps k ≡ Some step
  pub node : HasNode tree i (step_gate step pin (suc k)) (Some parent)
  pub before : Before parent

-- the node at place i is that of the path's first k steps, with the pin where it stands on them
abbrev pub IsNodeOf : Tree → Path → Option Pin → ℕ → ℕ → Type 0
IsNodeOf tree p pin zero i = HasNode tree i (start_gate p pin) None
IsNodeOf tree p pin (suc k) i = HasStep tree p.steps pin k (IsNodeOf tree p pin k) i

-- the first k steps of two paths are the same, and so is what their pins ask there
pub record IsSamePrefix (p : Path) (pin : Option Pin) (q : Path) (other : Option Pin) (k : ℕ)
    : Type 0 where
  pub start : p.start ≡ q.start
  pub steps : (j : ℕ) → j < k → slice_get p.steps j ≡ slice_get q.steps j
  pub pins : (j : ℕ) → j ≤ k → pin_at pin j ≡ pin_at other j

-- a prefix has one node with what is asked on it, whatever path and pin it comes from
pub record IsShared (tree : Tree) : Type 0 where
  pub one_node : (p q : Path) (pin other : Option Pin) (k i j : ℕ)
      → IsSamePrefix p pin q other k → IsNodeOf tree p pin k i → IsNodeOf tree q other k j → i ≡ j
