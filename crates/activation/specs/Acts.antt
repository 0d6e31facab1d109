-- What `Acts` keeps, for which plan it was made, and for which frames it stands.
use Rattle.std.specs.Prelude.{◌≡◌, ◌+◌, ◌++◌, ℕ, Bool, List, [], ◌∷◌, Option, Some, None, IsSome, length, nat_le, slice_get}
use Rattle.std.specs.Option.{option_and_then}
use Rattle.op_network.specs.declared.edge.Edge.{Edge}
use Rattle.op_network.specs.declared.value.Value.{Value}
use Rattle.dep_paths.specs.Activation.{Frames, first_pin, is_active, activates}
use Rattle.dep_paths.specs.Duties.{Planned}
use Rattle.dep_paths.specs.declared.path.Obligation.{Obligation}
use Rattle.dep_paths.specs.declared.path.Obligation.TheVariants.{Bc, Ecc, Mcc, Omc}
use Rattle.dep_paths.specs.declared.path.Path.{Path}
use Rattle.dep_paths.specs.declared.path.Pin.{Pin}
use Rattle.activation.specs.Tree.{Tree, IsNodeOf}

-- a tree of prefixes, for each obligation its node, for each node a flag, and whether a frame was taken
pub record Kept : Type 0 where
  pub tree : Tree
  pub goals : List (Option ℕ)
  pub flags : List Bool
  pub begun : Bool

-- the path of an obligation on a path, by its place in the plan
abbrev pub place_of : Obligation → Option ℕ
place_of (Bc path) = Some path
place_of (Ecc path value) = Some path
place_of (Mcc path pin) = Some path
place_of (Omc condition value) = None

-- what an obligation asks besides
abbrev pub pin_of : Obligation → Option Pin
pin_of (Bc path) = None
pin_of (Ecc path value) = first_pin value
pin_of (Mcc path pin) = pin
pin_of (Omc condition value) = None

abbrev pub path_of : List Path → Obligation → Option Path
path_of paths duty = option_and_then (slice_get paths) (place_of duty)

-- the node of an obligation is that of its whole path with its pin; without a path there is none
abbrev pub IsGoal : Tree → Option Path → Option Pin → Option ℕ → Type 0
IsGoal tree None pin goal = goal ≡ None
IsGoal tree (Some p) pin None = ⊥
IsGoal tree (Some p) pin (Some i) = IsNodeOf tree p pin (length p.steps) i

-- the node of the obligation at place o
pub record HasGoal (tree : Tree) (goals : List (Option ℕ)) (paths : List Path)
    (duty : Obligation) (o : ℕ) : Type 0 where
  pub goal : Option ℕ
  pub there : slice_get goals o ≡ Some goal
  pub is_goal : IsGoal tree (path_of paths duty) (pin_of duty) goal

-- it was made for this plan: each obligation has its node
pub record IsMadeFor (plan : Planned) (kept : Kept) : Type 0 where
  pub size : length kept.goals ≡ length plan.duties
  pub goals : (o : ℕ) (duty : Obligation) → slice_get plan.duties o ≡ Some duty
      → HasGoal kept.tree kept.goals plan.paths duty o

-- It stands for these frames of a network with these edges: it knows whether there is one, and the
-- flag of each prefix with its pin tells whether it is active at the last instant.
pub record StandsFor (edges : List Edge) (frames : Frames) (kept : Kept) : Type 0 where
  pub begun : kept.begun ≡ nat_le 1 (length frames)
  pub flags : (t : ℕ) → length frames ≡ t + 1 → (p : Path) (pin : Option Pin) (k i : ℕ)
      → IsNodeOf kept.tree p pin k i → slice_get kept.flags i ≡ Some (is_active edges frames p pin k t)

-- what stood for a list of frames stands for it with one frame more
abbrev pub StepsBy : List Edge → List Value → Kept → Kept → Type 0
StepsBy edges frame old new = (frames : Frames) → StandsFor edges frames old
    → StandsFor edges (frames ++ frame ∷ []) new

-- the answer is whether an obligation on a path, by its place, is met at the last instant
abbrev pub TellsMet : Kept → ℕ → Bool → Type 0
TellsMet kept o answer = (edges : List Edge) (plan : Planned) (frames : Frames) (t : ℕ)
    (duty : Obligation) → IsMadeFor plan kept → StandsFor edges frames kept → length frames ≡ t + 1
    → slice_get plan.duties o ≡ Some duty → IsSome (place_of duty)
    → answer ≡ activates edges plan.paths frames duty t
