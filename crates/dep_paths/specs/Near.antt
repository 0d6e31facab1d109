-- How far edges are from the outputs.
use Rattle.std.specs.Prelude.{◌≡◌, ◌<◌, ◌≤◌, ◌+◌, ℕ, List, Some, length, slice_index_or}
use Rattle.op_network.specs.declared.edge.Edge.{Edge}
use Rattle.op_network.specs.declared.edge.EdgeId.{EdgeId}
use Rattle.op_network.specs.declared.edge.Parts.{Parts}
use Rattle.dep_paths.specs.declared.path.Step.{Step}
use Rattle.dep_paths.specs.Has.{Has, InOrder}
use Rattle.dep_paths.specs.Paths.{Follows, last_edge, operand_of}
use Rattle.op_network.specs.declared.limits.TheConstants.{MOST_EDGES}
use Rattle.dep_paths.specs.declared.limits.TheConstants.{FAR}

-- the edges are few, the inputs and outputs are edges, and the inputs stand in order
pub record IsClosed (net : Parts) : Type 0 where
  pub few : length net.edges ≤ MOST_EDGES
  pub inputs : (e : EdgeId) → Has net.inputs e → e.0 < length net.edges
  pub outputs : (e : EdgeId) → Has net.outputs e → e.0 < length net.edges
  pub order : InOrder (λ (a b : EdgeId). a.0 < b.0) net.inputs

-- the distance that the table has
abbrev pub near_at : List ℕ → EdgeId → ℕ
near_at near e = slice_index_or near e.0 FAR

-- the steps lead from the edge to an output
pub record Leads (net : Parts) (e : EdgeId) (steps : List Step) : Type 0 where
  pub path : Follows net.edges e steps
  pub ends : Has net.outputs (last_edge e steps)

-- a distance below `FAR` is that of some steps to an output, or more
pub record IsSound (net : Parts) (near : List ℕ) : Type 0 where
  pub way : (e : EdgeId) → near_at near e < FAR → (steps : List Step) × Leads net e steps × (length steps ≤ near_at near e)

-- no steps to an output, if they are at most r, are fewer than the distance
pub record Knows (r : ℕ) (net : Parts) (near : List ℕ) : Type 0 where
  pub least : (e : EdgeId) (steps : List Step) → e.0 < length net.edges → Leads net e steps → length steps ≤ r → near_at near e ≤ length steps

-- no distance is above `FAR`
pub record AllNear (near : List ℕ) : Type 0 where
  pub most : (e : EdgeId) → near_at near e ≤ FAR

-- no distance has risen
pub record NoneRose (old new : List ℕ) : Type 0 where
  pub lower : (e : EdgeId) → near_at new e ≤ near_at old e

-- the first ports of an edge are taken into account
pub record CountsPorts (edges : List Edge) (edge : EdgeId) (port : ℕ) (old new : List ℕ) : Type 0 where
  pub done : (p : ℕ) (e : EdgeId) → p < port → operand_of edges (record { edge = edge; port = p }) ≡ Some e → near_at new e ≤ near_at old edge + 1

-- the first edges are taken into account
pub record CountsEdges (edges : List Edge) (edge : ℕ) (old new : List ℕ) : Type 0 where
  pub done : (s : Step) (e : EdgeId) → s.edge.0 < edge → operand_of edges s ≡ Some e → near_at new e ≤ near_at old s.edge + 1

-- each of these edges is at distance 0
pub record AreMarked (near : List ℕ) (es : List EdgeId) : Type 0 where
  pub marked : (e : EdgeId) → Has es e → near_at near e ≡ 0

-- where an output is at most r steps away, its distance
pub record IsTable (r : ℕ) (net : Parts) (near : List ℕ) : Type 0 where
  pub long : length near ≡ length net.edges
  pub sound : IsSound net near
  pub knows : Knows r net near
