-- The complete paths of a network, in order.
use Rattle.std.specs.Prelude.{◌≡◌, ◌≢◌, ◌<◌, ◌≤◌, ◌+◌, ◌⊎◌, ◌↔◌, ℕ, List, [], ◌∷◌, ◌++◌, Option, Some, length, slice_get}
use Rattle.std.specs.List.{All, AllPairs, Contains}
use Rattle.op_network.specs.declared.edge.Edge.{Edge}
use Rattle.op_network.specs.declared.edge.EdgeId.{EdgeId}
use Rattle.op_network.specs.declared.edge.Parts.{Parts}
use Rattle.op_network.specs.Operators.{operands_of}
use Rattle.dep_paths.specs.declared.path.Step.{Step}
use Rattle.dep_paths.specs.declared.path.Path.{Path}

-- the operand at the step's port of its edge
abbrev pub operand_of : List Edge → Step → Option EdgeId
operand_of edges s = slice_get (operands_of edges s.edge) s.port

-- each step's port has as operand the edge before it
abbrev pub Follows : List Edge → EdgeId → List Step → Type 0
Follows edges before [] = Unit {0}
Follows edges before (s ∷ steps) = (operand_of edges s ≡ Some before) × Follows edges s.edge steps

abbrev pub last_edge : EdgeId → List Step → EdgeId
last_edge start [] = start
last_edge start (s ∷ steps) = last_edge s.edge steps

-- how many edges it has, repeats counted
abbrev pub path_length : Path → ℕ
path_length p = length p.steps + 1

-- from an input to an output
pub record IsComplete (net : Parts) (p : Path) : Type 0 where
  pub starts : Contains net.inputs p.start
  pub path : Follows net.edges p.start p.steps
  pub ends : Contains net.outputs (last_edge p.start p.steps)

-- by edge, then by port
abbrev pub StepBefore : Step → Step → Type 0
StepBefore s t = (s.edge.0 < t.edge.0) ⊎ ((s.edge.0 ≡ t.edge.0) × (s.port < t.port))

-- by the first step in which they differ
abbrev pub StepsBefore : List Step → List Step → Type 0
StepsBefore [] ts = ⊥
StepsBefore (s ∷ ss) [] = ⊥
StepsBefore (s ∷ ss) (t ∷ ts) = StepBefore s t ⊎ ((s ≡ t) × StepsBefore ss ts)

abbrev pub StartsBefore : Path → Path → Type 0
StartsBefore p q = (p.start.0 < q.start.0) ⊎ ((p.start.0 ≡ q.start.0) × StepsBefore p.steps q.steps)

-- by length, then by start, then by steps
abbrev pub Before : Path → Path → Type 0
Before p q = (path_length p < path_length q) ⊎ ((path_length p ≡ path_length q) × StartsBefore p q)

-- the complete paths of at most n edges, each once and in order
pub record IsListOf (net : Parts) (n : ℕ) (ps : List Path) : Type 0 where
  pub each : (p : Path) → Contains ps p ↔ (IsComplete net p × (path_length p ≤ n))
  pub order : AllPairs Before ps

abbrev pub extended_by : Path → List Step → Path
extended_by p rest = record { start = p.start; steps = p.steps ++ rest }

-- some steps more make it a complete path of at most n edges
pub record CanBeCompleted (net : Parts) (n : ℕ) (p : Path) : Type 0 where
  pub rest : List Step
  pub complete : IsComplete net (extended_by p rest)
  pub within : path_length (extended_by p rest) ≤ n

-- there are more than so many different complete paths of at most n edges
pub record MoreThan (count : ℕ) (net : Parts) (n : ℕ) : Type 0 where
  pub paths : List Path
  pub each : All (λ p. IsComplete net p × (path_length p ≤ n)) paths
  pub different : AllPairs (λ p q. p ≢ q) paths
  pub many : count < length paths
