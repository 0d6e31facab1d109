-- How a tree grows while it is made. These words are for the proofs; no public clause cites them.
use Rattle.std.specs.Prelude.{◌≡◌, ◌≢◌, ◌⊎◌, ◌<◌, ◌++◌, ℕ, AllPairs, List, [], ◌∷◌, Option, Some, length, slice_get}
use Rattle.dep_paths.specs.declared.path.Obligation.{Obligation}
use Rattle.dep_paths.specs.declared.path.Path.{Path}
use Rattle.activation.specs.Tree.{Tree}
use Rattle.activation.specs.declared.tree.Gate.{Gate}
use Rattle.activation.specs.declared.tree.Node.{Node}
use Rattle.activation.specs.Acts.{HasGoal}
use Rattle.activation.specs.Passing.{AreInPlace}

-- the item is there already, or it is added at the end
abbrev pub AddsOnce : {X : Type 0} → List X → List X → X → Type 0
AddsOnce old new item = (new ≡ old) ⊎ (new ≡ old ++ item ∷ [])

-- what stood in the list stands there still
pub record Grows {X : Type 0} (old new : List X) : Type 0 where
  pub stays : (i : ℕ) (x : X) → slice_get old i ≡ Some x → slice_get new i ≡ Some x

pub record TreeGrows (old new : Tree) : Type 0 where
  pub gates : Grows old.gates new.gates
  pub nodes : Grows old.nodes new.nodes

-- each node has its gate and stands behind its parent, and nothing stands twice
pub record IsGrown (gates : List Gate) (nodes : List Node) : Type 0 where
  pub place : AreInPlace (length gates) nodes
  pub gates_differ : AllPairs (λ a b. a ≢ b) gates
  pub nodes_differ : AllPairs (λ a b. a ≢ b) nodes

-- each of the first obligations has its node
pub record AreGoalsBelow (n : ℕ) (tree : Tree) (paths : List Path) (duties : List Obligation)
    (goals : List (Option ℕ)) : Type 0 where
  pub size : length goals ≡ n
  pub each : (o : ℕ) (duty : Obligation) → o < n → slice_get duties o ≡ Some duty
      → HasGoal tree goals paths duty o
