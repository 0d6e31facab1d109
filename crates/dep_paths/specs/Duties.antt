-- What a plan asks of a suite.
use Rattle.std.specs.Prelude.{◌≡◌, ◌<◌, ◌≤◌, ◌++◌, ℕ, Bool, true, false, if◌then◌else◌, List, []}
use Rattle.std.specs.Prelude.{◌∷◌, Option, Some, None, map, length}
use Rattle.std.specs.List.{All, enumerate_from, flat_map, range_with_len}
use Rattle.op_network.specs.declared.edge.Edge.{Edge}
use Rattle.op_network.specs.declared.edge.EdgeId.{EdgeId}
use Rattle.op_network.specs.declared.edge.Parts.{Parts}
use Rattle.dep_paths.specs.declared.limits.TheConstants.{MOST_LENGTH, MOST_OBLIGATIONS, MOST_PATHS}
use Rattle.dep_paths.specs.declared.path.Condition.{Condition}
use Rattle.dep_paths.specs.declared.path.Obligation.{Obligation}
use Rattle.dep_paths.specs.declared.path.Obligation.TheVariants.{Bc, Ecc, Mcc, Omc}
use Rattle.dep_paths.specs.declared.path.Path.{Path}
use Rattle.dep_paths.specs.declared.path.Pin.{Pin}
use Rattle.dep_paths.specs.declared.path.Step.{Step}
use Rattle.dep_paths.specs.Conditions.{conditions, is_truth_edge}
use Rattle.dep_paths.specs.Paths.{IsListOf, path_length}

-- the truths that an edge is asked for: true and false of a Truth, and none of another edge
abbrev pub truths_of : List Edge → EdgeId → List Bool
truths_of edges e = if is_truth_edge edges e then true ∷ false ∷ [] else []

-- the edges of a path, by their places
abbrev pub edges_on : Path → List EdgeId
edges_on p = p.start ∷ map (λ (s : Step). s.edge) p.steps

abbrev pub pin_at : ℕ → Bool → Pin
pin_at place value = record { place = place; value = value }

-- what may be pinned at a place with this edge
abbrev pub pins_at : List Edge → ℕ × EdgeId → List Pin
pins_at edges at = map (pin_at at.0) (truths_of edges at.1)

-- what may be pinned on a path, by place
abbrev pub pins_on : List Edge → Path → List Pin
pins_on edges p = flat_map (pins_at edges) (enumerate_from 0 (edges_on p))

-- one for each of these, and a plain one where there is none
abbrev pub each_or_plain : {X : Type 0} → List X → List (Option X)
each_or_plain [] = None ∷ []
each_or_plain (x ∷ xs) = Some x ∷ map Some xs

-- of the path at a place: each truth of its first edge, or a plain obligation
abbrev pub elementary_duties : List Edge → ℕ × Path → List Obligation
elementary_duties edges at = map (Ecc at.0) (each_or_plain (truths_of edges at.1.start))

-- of the path at a place: each truth of each edge, or a plain obligation
abbrev pub multiple_duties : List Edge → ℕ × Path → List Obligation
multiple_duties edges at = map (Mcc at.0) (each_or_plain (pins_on edges at.1))

-- basic coverage: each path, by its place
abbrev pub basic_coverage : List Path → List Obligation
basic_coverage paths = map Bc (range_with_len 0 (length paths))

-- elementary conditions, path by path
abbrev pub elementary_conditions : List Edge → List Path → List Obligation
elementary_conditions edges paths = flat_map (elementary_duties edges) (enumerate_from 0 paths)

-- multiple conditions, path by path
abbrev pub multiple_conditions : List Edge → List Path → List Obligation
multiple_conditions edges paths = flat_map (multiple_duties edges) (enumerate_from 0 paths)

-- of the condition at a place: true and false
abbrev pub condition_duties : ℕ → List Obligation
condition_duties place = Omc place true ∷ Omc place false ∷ []

-- observable conditions: so many conditions, by their places
abbrev pub observable_conditions : ℕ → List Obligation
observable_conditions count = flat_map condition_duties (range_with_len 0 count)

-- the obligations on the paths of a network with these edges, criterion by criterion
abbrev pub path_duties : List Edge → List Path → List Obligation
path_duties edges paths =
    basic_coverage paths ++ elementary_conditions edges paths ++ multiple_conditions edges paths

-- those on the paths, and then those on the conditions
abbrev pub duties : List Edge → List Path → List Obligation
duties edges paths = path_duties edges paths ++ observable_conditions (length (conditions edges))

-- what a plan holds: the most edges of its paths, the paths, the conditions and the obligations
pub record Planned : Type 0 where
  pub length : ℕ
  pub paths : List Path
  pub conditions : List Condition
  pub duties : List Obligation

-- what holds of each plan
pub record IsWithinLimits (plan : Planned) : Type 0 where
  pub least : 1 ≤ plan.length
  pub most : plan.length ≤ MOST_LENGTH
  pub short : All (λ (p : Path). path_length p ≤ plan.length) plan.paths
  pub few_paths : length plan.paths ≤ MOST_PATHS
  pub few_duties : length plan.duties ≤ MOST_OBLIGATIONS

-- The plan of a network: the list of its paths, the list of its conditions, and the obligations on
-- these.
pub record IsPlanOf (net : Parts) (plan : Planned) : Type 0 where
  pub listed : IsListOf net plan.length plan.paths
  pub conditional : plan.conditions ≡ conditions net.edges
  pub asked : plan.duties ≡ duties net.edges plan.paths

-- The paths are within their limit, and the obligations are not.
pub record AsksTooMuch (net : Parts) (n : ℕ) : Type 0 where
  pub paths : List Path
  pub listed : IsListOf net n paths
  pub few : length paths ≤ MOST_PATHS
  pub many : MOST_OBLIGATIONS < length (duties net.edges paths)
