-- A tree that grows keeps its nodes.
use Rattle.std.proofs.Common.{◌≡◌, ◌∙◌, ◌⊎◌, inl, inr, ⊎_elim, ℕ, zero, suc, ◌+◌, ◌<◌, ◌≤◌, List, [], ◌∷◌, ◌++◌, Option, Some, None, length, get_or, slice_get, refl, sym, ap, subst, arith, length-append}
use Rattle.std.specs.Option.{ForSome}
use Rattle.std.proofs.lemmas.Option.{slice_get_within, slice_get-get_or}
use Rattle.dep_paths.specs.Duties.{Planned}
use Rattle.dep_paths.specs.declared.path.Obligation.{Obligation}
use Rattle.dep_paths.specs.declared.path.Path.{Path}
use Rattle.dep_paths.specs.declared.path.Pin.{Pin}
use Rattle.dep_paths.specs.declared.path.Step.{Step}
use Rattle.activation.specs.declared.tree.Gate.{Gate}
use Rattle.activation.specs.declared.tree.Node.{Node}
use Rattle.activation.specs.Acts.{HasGoal, IsGoal, IsMadeFor, Kept, path_of, pin_of}
use Rattle.activation.specs.Growing.{AddsOnce, AreGoalsBelow, Grows, TreeGrows}
use Rattle.activation.specs.Passing.{AreInPlace, IsInPlace}
use Rattle.activation.specs.Tree.{HasNode, IsNodeOf, Tree, start_gate, step_gate}

-- ---- lists

get_front : {X : Type 0} (xs ys : List X) (i : ℕ) (x : X) → slice_get xs i ≡ Some x → slice_get (xs ++ ys) i ≡ Some x
get_front [] ys i x there = absurd (cc)
get_front (y ∷ xs) ys zero x there = there
get_front (y ∷ xs) ys (suc i) x there = get_front xs ys i x there

-- what stands in a list with one item more
get_pushed : {X : Type 0} (xs : List X) (y : X) (i : ℕ) (x : X) → slice_get (xs ++ y ∷ []) i ≡ Some x → (slice_get xs i ≡ Some x) ⊎ ((i ≡ length xs) × (x ≡ y))
get_pushed [] y zero x there = inr (refl, cc)
get_pushed [] y (suc i) x there = absurd (cc)
get_pushed (z ∷ xs) y zero x there = inl there
get_pushed (z ∷ xs) y (suc i) x there = ⊎_elim inl (λ last. inr (grind (arith, last.0), last.1)) (get_pushed xs y i x there)

get_last : {X : Type 0} (xs : List X) (y : X) → slice_get (xs ++ y ∷ []) (length xs) ≡ Some y
get_last [] y = refl
get_last (x ∷ xs) y = get_last xs y

same_grows : {X : Type 0} (xs : List X) → Grows xs xs
same_grows xs = record { stays = λ i x there. there }

grows_on : {X : Type 0} (xs ys zs : List X) → Grows xs ys → Grows ys zs → Grows xs zs
grows_on xs ys zs first then = record { stays = λ i x there. then.stays i x (first.stays i x there) }

once_grows : {X : Type 0} (old new : List X) (x : X) → AddsOnce old new x → Grows old new
once_grows old new x once = ⊎_elim
    (λ same. subst (Grows old) (sym same) (same_grows old))
    (λ more. subst (Grows old) (sym more) (record { stays = λ i y there. get_front old (x ∷ []) i y there }))
    once

once_longer : {X : Type 0} (old new : List X) (x : X) → AddsOnce old new x → length old ≤ length new
once_longer old new x once = ⊎_elim
    (λ same. omega (arith, ap length same))
    (λ more. omega (arith, ap length more, length-append old (x ∷ [])))
    once

-- ---- trees

pub tree_stays : (tree : Tree) → TreeGrows tree tree
tree_stays tree = record { gates = same_grows tree.gates; nodes = same_grows tree.nodes }

pub tree_grows_on : (first second third : Tree) → TreeGrows first second → TreeGrows second third → TreeGrows first third
tree_grows_on first second third a b = record { gates = grows_on first.gates second.gates third.gates a.gates b.gates; nodes = grows_on first.nodes second.nodes third.nodes a.nodes b.nodes }

pub once_tree : (old : Tree) (gates gates' : List Gate) (nodes nodes' : List Node) (gate : Gate) (node : Node) → record { gates = gates; nodes = nodes } ≡ old → AddsOnce gates gates' gate → AddsOnce nodes nodes' node → TreeGrows old (record { gates = gates'; nodes = nodes' })
once_tree old gates gates' nodes nodes' gate node is more_gates more_nodes =
    subst (λ (tree : Tree). TreeGrows tree (record { gates = gates'; nodes = nodes' })) is (record { gates = once_grows gates gates' gate more_gates; nodes = once_grows nodes nodes' node more_nodes })

pub tree_copied : (tree : Tree) (gates : List Gate) (nodes : List Node) → gates ≡ tree.gates → nodes ≡ tree.nodes → record { gates = gates; nodes = nodes } ≡ tree
tree_copied tree gates nodes same_gates same_nodes = ap (λ (g : List Gate). record { gates = g; nodes = nodes }) same_gates ∙ ap (λ (n : List Node). record { gates = tree.gates; nodes = n }) same_nodes

place_kept : (gates gates' i : ℕ) (node : Node) → gates ≤ gates' → IsInPlace gates i node → IsInPlace gates' i node
place_kept gates gates' i node more place = record { gate = omega (arith, more, place.gate); parent = place.parent }

-- a node more, behind one that is there
pub more_in_place : (gates gates' : List Gate) (nodes nodes' : List Node) (gate : Gate) (g : ℕ) (parent : Option ℕ) → AreInPlace (length gates) nodes → AddsOnce gates gates' gate → slice_get gates' g ≡ Some gate → ForSome parent (λ p. p < length nodes) → AddsOnce nodes nodes' (record { gate = g; parent = parent }) → AreInPlace (length gates') nodes'
more_in_place gates gates' nodes nodes' gate g parent place more_gates has before once = ⊎_elim
    (λ same. subst (AreInPlace (length gates')) (sym same) kept)
    (λ more. subst (AreInPlace (length gates')) (sym more) (record {
      each = λ i node there. ⊎_elim
          (λ old. kept.each i node old)
          (λ last. subst (λ (n : Node). IsInPlace (length gates') i n) (sym last.1) (record {
            gate = slice_get_within gates' g gate has;
            parent = λ p is. subst (λ (n : ℕ). p < n) (sym last.0) (before p is);
          }))
          (get_pushed nodes (record { gate = g; parent = parent }) i node there);
    }))
    once
  where
    kept : AreInPlace (length gates') nodes
    kept = record { each = λ i node there. place_kept (length gates) (length gates') i node (once_longer gates gates' gate more_gates) (place.each i node there) }

-- ---- nodes

has_node_kept : (old new : Tree) (i : ℕ) (gate : Gate) (parent : Option ℕ) → TreeGrows old new → HasNode old i gate parent → HasNode new i gate parent
has_node_kept old new i gate parent grows node = record { gate_place = node.gate_place; there = grows.nodes.stays i _ node.there; has_gate = grows.gates.stays node.gate_place gate node.has_gate }

pub node_kept : (old new : Tree) (p : Path) (pin : Option Pin) (k i : ℕ) → TreeGrows old new → IsNodeOf old p pin k i → IsNodeOf new p pin k i
node_kept old new p pin zero i grows node = has_node_kept old new i (start_gate p pin) None grows node
node_kept old new p pin (suc k) i grows h = record {
  step = h.step;
  parent = h.parent;
  taken = h.taken;
  node = has_node_kept old new i (step_gate h.step pin (suc k)) (Some h.parent) grows h.node;
  before = node_kept old new p pin k h.parent grows h.before;
}

pub node_within : (tree : Tree) (p : Path) (pin : Option Pin) (k i : ℕ) → IsNodeOf tree p pin k i → i < length tree.nodes
node_within tree p pin zero i node = slice_get_within tree.nodes i _ node.there
node_within tree p pin (suc k) i h = slice_get_within tree.nodes i _ h.node.there

pub next_node : (tree : Tree) (p : Path) (pin : Option Pin) (k i parent : ℕ) (d : Step) → k < length p.steps → HasNode tree i (step_gate (get_or p.steps k d) pin (k + 1)) (Some parent) → IsNodeOf tree p pin k parent → IsNodeOf tree p pin (k + 1) i
next_node tree p pin k i parent d within node before = subst (λ (n : ℕ). IsNodeOf tree p pin n i) next (record {
  step = get_or p.steps k d;
  parent = parent;
  taken = slice_get-get_or p.steps k d within;
  node = subst (λ (n : ℕ). HasNode tree i (step_gate (get_or p.steps k d) pin n) (Some parent)) (sym next) node;
  before = before;
})
  where
    next : suc k ≡ k + 1
    next = omega arith

-- ---- obligations

goal_kept : (old new : Tree) (path : Option Path) (pin : Option Pin) (goal : Option ℕ) → TreeGrows old new → IsGoal old path pin goal → IsGoal new path pin goal
goal_kept old new None pin goal grows is = is
goal_kept old new (Some p) pin None grows is = is
goal_kept old new (Some p) pin (Some i) grows is = node_kept old new p pin (length p.steps) i grows is

pub goal_at_node : (tree : Tree) (path : Option Path) (p : Path) (pin : Option Pin) (i : ℕ) → path ≡ Some p → IsNodeOf tree p pin (length p.steps) i → IsGoal tree path pin (Some i)
goal_at_node tree path p pin i is node = subst (λ (o : Option Path). IsGoal tree o pin (Some i)) (sym is) node

pub goal_nowhere : (tree : Tree) (path : Option Path) (pin : Option Pin) → path ≡ None → IsGoal tree path pin None
goal_nowhere tree path pin is = subst (λ (o : Option Path). IsGoal tree o pin None) (sym is) refl

pub no_goals : (tree : Tree) (paths : List Path) (duties : List Obligation) → AreGoalsBelow 0 tree paths duties []
no_goals tree paths duties = record { size = refl; each = λ o duty below there. absurd (omega (arith, below)) }

pub more_goals : (n : ℕ) (old new : Tree) (paths : List Path) (duties : List Obligation) (d : Obligation) (goals : List (Option ℕ)) (goal : Option ℕ) → n < length duties → TreeGrows old new → IsGoal new (path_of paths (get_or duties n d)) (pin_of (get_or duties n d)) goal → AreGoalsBelow n old paths duties goals → AreGoalsBelow (n + 1) new paths duties (goals ++ goal ∷ [])
more_goals n old new paths duties d goals goal within grows is so_far = record {
  size = length-append goals (goal ∷ []) ∙ ap (λ (m : ℕ). m + 1) so_far.size;
  each = λ o duty below there. ⊎_elim
      (λ under. let has = so_far.each o duty under there in record {
        goal = has.goal;
        there = get_front goals (goal ∷ []) o has.goal has.there;
        is_goal = goal_kept old new (path_of paths duty) (pin_of duty) has.goal grows has.is_goal;
      })
      (λ same. record {
        goal = goal;
        there = ap (slice_get (goals ++ goal ∷ [])) (same ∙ sym so_far.size) ∙ get_last goals goal;
        is_goal = subst (λ (x : Obligation). IsGoal new (path_of paths x) (pin_of x) goal) (some_value _ _ (sym (slice_get-get_or duties n d within) ∙ ap (slice_get duties) (sym same) ∙ there)) is;
      })
      (below_or_same o below);
}
  where
    below_or_same : (o : ℕ) → o < n + 1 → (o < n) ⊎ (o ≡ n)
    below_or_same o below = grind (arith, below)

    some_value : (x y : Obligation) → Some x ≡ Some y → x ≡ y
    some_value x y same = cc

-- so it is in a copy of the tree
pub goals_copied : (n : ℕ) (tree : Tree) (gates : List Gate) (nodes : List Node) (paths : List Path) (duties : List Obligation) (goals : List (Option ℕ)) → gates ≡ tree.gates → nodes ≡ tree.nodes → AreGoalsBelow n tree paths duties goals → AreGoalsBelow n (record { gates = gates; nodes = nodes }) paths duties goals
goals_copied n tree gates nodes paths duties goals same_gates same_nodes all = subst (λ (t : Tree). AreGoalsBelow n t paths duties goals) (sym (tree_copied tree gates nodes same_gates same_nodes)) all

-- what has the nodes of all obligations is made for the plan
pub made_for : (plan : Planned) (kept : Kept) (paths : List Path) (duties : List Obligation) → paths ≡ plan.paths → duties ≡ plan.duties → AreGoalsBelow (length duties) kept.tree paths duties kept.goals → IsMadeFor plan kept
made_for plan kept paths duties same_paths same_duties all = record {
  size = all.size ∙ ap length same_duties;
  goals = λ o duty there.
      let found = ap (λ (l : List Obligation). slice_get l o) same_duties ∙ there in
      subst (λ (l : List Path). HasGoal kept.tree kept.goals l duty o) same_paths (all.each o duty (slice_get_within duties o duty found) found);
}
