-- The lists that are built: of each length, the paths that can be completed. These words are for the proof of
-- `list`; no public clause cites them.
use Rattle.std.specs.Prelude.{◌≡◌, ◌<◌, ◌+◌, ◌-◌, ◌&&◌, ◌⊎◌, ℕ, zero, suc, Bool, false, List, [], ◌∷◌, ◌++◌, Option, Some, None, map, length, nat_eq, nat_le, slice_index_or}
use Rattle.std.specs.List.{flat_map, filter, range_with_len}
use Rattle.op_network.specs.declared.edge.Edge.{Edge}
use Rattle.op_network.specs.declared.edge.EdgeId.{EdgeId}
use Rattle.op_network.specs.declared.edge.Parts.{Parts}
use Rattle.op_network.specs.Operators.{operands_of}
use Rattle.dep_paths.specs.declared.path.Step.{Step}
use Rattle.dep_paths.specs.declared.path.Path.{Path}
use Rattle.dep_paths.specs.Paths.{last_edge, operand_of}
use Rattle.dep_paths.specs.Near.{near_at}
use Rattle.dep_paths.specs.declared.limits.TheConstants.{MOST_PATHS}

abbrev pub last_of : Path → EdgeId
last_of p = last_edge p.start p.steps

abbrev pub step_at : EdgeId → ℕ → Step
step_at e port = record { edge = e; port = port }

-- the steps into an edge through its first ports
abbrev pub steps_through : EdgeId → ℕ → List Step
steps_through e ports = map (step_at e) (range_with_len 0 ports)

abbrev pub steps_into : List Edge → ℕ → List Step
steps_into edges e = steps_through (record { 0 = e }) (length (operands_of edges (record { 0 = e })))

-- the steps into the first edges
abbrev pub steps_below : List Edge → ℕ → List Step
steps_below edges n = flat_map (steps_into edges) (range_with_len 0 n)

abbrev pub is_operand : Option EdgeId → ℕ → Bool
is_operand None e = false
is_operand (Some a) e = nat_eq a.0 e

-- the step reads the edge, and from it an output is near
unfoldable pub leads_on : List Edge → List ℕ → ℕ → ℕ → Step → Bool
leads_on edges near room e s = is_operand (operand_of edges s) e && nat_le (near_at near s.edge) room

unfoldable pub readers_of : List Edge → List ℕ → ℕ → ℕ → List Step
readers_of edges near room e = filter (leads_on edges near room e) (steps_below edges (length edges))

abbrev pub row_at : List (List Step) → ℕ → List Step
row_at rows e = slice_index_or rows e []

-- each row has those of some steps more that read its edge
pub record AddsReaders (edges : List Edge) (near : List ℕ) (room : ℕ) (steps : List Step) (old new : List (List Step)) : Type 0 where
  pub each : (e : ℕ) → row_at new e ≡ row_at old e ++ filter (leads_on edges near room e) steps

-- the rows are the readers of each edge
pub record AreReaderRows (edges : List Edge) (near : List ℕ) (room : ℕ) (rows : List (List Step)) : Type 0 where
  pub each : (e : ℕ) → row_at rows e ≡ readers_of edges near room e

unfoldable pub pushed : Path → Step → Path
pushed p s = record { start = p.start; steps = p.steps ++ s ∷ [] }

unfoldable pub start_path : EdgeId → Path
start_path e = record { start = e; steps = [] }

unfoldable pub is_near : List ℕ → ℕ → EdgeId → Bool
is_near near room e = nat_le (near_at near e) room

-- each path followed by each step of the row of its last edge
unfoldable pub longer_paths : (ℕ → List Step) → List Path → List Path
longer_paths rows ps = flat_map (λ p. map (pushed p) (rows (last_of p).0)) ps

unfoldable pub ends_at : List ℕ → Path → Bool
ends_at near p = nat_eq (near_at near (last_of p)) 0

unfoldable pub first_level : List EdgeId → List ℕ → ℕ → List Path
first_level inputs near room = map start_path (filter (is_near near room) inputs)

-- the paths of k steps that can be completed within n edges
unfoldable pub level : Parts → List ℕ → ℕ → ℕ → List Path
level net near n zero = first_level net.inputs near (n - 1)
level net near n (suc k) = longer_paths (readers_of net.edges near (n - 2 - k)) (level net near n k)

-- the complete ones of fewer than k steps
unfoldable pub complete_below : Parts → List ℕ → ℕ → ℕ → List Path
complete_below net near n zero = []
complete_below net near n (suc k) = complete_below net near n k ++ filter (ends_at near) (level net near n k)

-- a level has too many paths, or the complete ones are too many
pub record IsTooLong (net : Parts) (near : List ℕ) (n : ℕ) : Type 0 where
  pub steps : ℕ
  pub below : steps < n
  pub long : (MOST_PATHS < length (level net near n steps)) ⊎ (MOST_PATHS < length (complete_below net near n (steps + 1)))
