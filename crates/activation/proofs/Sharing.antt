-- Gates and nodes stand once each, and so a prefix with its pin has one node.
use Rattle.std.specs.Prelude.{◌==◌}
use Rattle.std.proofs.Common.{◌≡◌, ◌≢◌, ◌∙◌, ◌⊎◌, ⊎_elim, ℕ, zero, suc, ◌<◌, Bool, true, false, ◌&&◌, List, Option, Some, None, get_or, slice_get, refl, sym, ap, subst, arith}
use Rattle.std.specs.List.{AllPairs, IsDistinct}
use Rattle.std.specs.Option.{option_eq}
use Rattle.std.proofs.Math.Bool.{beq}
use Rattle.std.proofs.lemmas.Bool.Decides.{Decides-eqb}
use Rattle.std.proofs.lemmas.Map.Keys.{apart_from_distinct}
use Rattle.std.proofs.lemmas.Option.{get_or_from_slice_get, slice_get_within}
use Rattle.activation.specs.contracts.tree.GatePartialEq.TheImpl.{eq-value as gate_eq}
use Rattle.activation.specs.contracts.tree.NodePartialEq.TheImpl.{eq-value as node_eq}
use Rattle.activation.specs.declared.tree.Gate.{Gate}
use Rattle.activation.specs.declared.tree.Node.{Node}
use Rattle.op_network.specs.declared.edge.EdgeId.{EdgeId}
use Rattle.dep_paths.specs.declared.path.Path.{Path}
use Rattle.dep_paths.specs.declared.path.Pin.{Pin}
use Rattle.dep_paths.specs.declared.path.Step.{Step}
use Rattle.activation.specs.Tree.{HasNode, IsNodeOf, IsSamePrefix, IsShared, Tree, pin_at, step_gate}
use Rattle.activation.proofs.Trees.{tree_copied}

-- ---- lists in which nothing stands twice

both_true : (a b : Bool) → a ≡ true → b ≡ true → (a && b) ≡ true
both_true a b first second = cc

number_same : (n : ℕ) → (n == n) ≡ true
number_same n = (Decides-eqb n n).1 refl

truth_same : (b : Bool) → beq b b ≡ true
truth_same true = refl
truth_same false = refl

option_same : {X : Type 0} (eq : X → X → Bool) → ((x : X) → eq x x ≡ true) → (o : Option X) → option_eq eq o o ≡ true
option_same eq same None = refl
option_same eq same (Some x) = same x

gate_same : (gate : Gate) → gate_eq.it gate gate ≡ true
gate_same gate = both_true _ _ (number_same gate.edge) (both_true _ _ (option_same _ number_same gate.port) (option_same _ truth_same gate.pin))

node_same : (node : Node) → node_eq.it node node ≡ true
node_same node = both_true _ _ (number_same node.gate) (option_same _ number_same node.parent)

apart : {X : Type 0} (eq : X → X → Bool) → ((x : X) → eq x x ≡ true) → (xs : List X) → IsDistinct eq xs → AllPairs (λ a b. a ≢ b) xs
apart eq same xs distinct i j d before within equal =
    let differ = apart_from_distinct eq xs i j d distinct before within in
    let is : eq (get_or xs i d) (get_or xs j d) ≡ true = subst (λ x. eq (get_or xs i d) x ≡ true) equal (same (get_or xs i d)) in
    cc

pub gates_apart : (gates : List Gate) → IsDistinct gate_eq.it gates → AllPairs (λ a b. a ≢ b) gates
gates_apart gates distinct = apart gate_eq.it gate_same gates distinct

pub nodes_apart : (nodes : List Node) → IsDistinct node_eq.it nodes → AllPairs (λ a b. a ≢ b) nodes
nodes_apart nodes distinct = apart node_eq.it node_same nodes distinct

three_ways : (i j : ℕ) → (i ≡ j) ⊎ ((i < j) ⊎ (j < i))
three_ways i j = grind arith

one_place : {X : Type 0} (xs : List X) → AllPairs (λ a b. a ≢ b) xs → (i j : ℕ) (x : X) → slice_get xs i ≡ Some x → slice_get xs j ≡ Some x → i ≡ j
one_place xs differ i j x at_i at_j = ⊎_elim (λ same. same) (λ other. absurd (⊎_elim
    (λ before. differ i j x before (slice_get_within xs j x at_j) (get_or_from_slice_get xs i x x at_i ∙ sym (get_or_from_slice_get xs j x x at_j)))
    (λ behind. differ j i x behind (slice_get_within xs i x at_i) (get_or_from_slice_get xs j x x at_j ∙ sym (get_or_from_slice_get xs i x x at_i)))
    other)) (three_ways i j)

-- ---- nodes

some_value : {X : Type 0} (x y : X) → Some x ≡ Some y → x ≡ y
some_value x y same = cc

module _ (tree : Tree) (gates : AllPairs (λ a b. a ≢ b) tree.gates) (nodes : AllPairs (λ a b. a ≢ b) tree.nodes) where
  one_at : (i j : ℕ) (gate other : Gate) (parent before : Option ℕ) → gate ≡ other → parent ≡ before → HasNode tree i gate parent → HasNode tree j other before → i ≡ j
  one_at i j gate other parent before same_gate same_parent a b =
      let place : a.gate_place ≡ b.gate_place = one_place tree.gates gates a.gate_place b.gate_place other (a.has_gate ∙ ap Some same_gate) b.has_gate in
      let node : record { gate = a.gate_place; parent = parent } ≡ record { gate = b.gate_place; parent = before } = ap (λ (g : ℕ). record { gate = g; parent = parent }) place ∙ ap (λ (p : Option ℕ). record { gate = b.gate_place; parent = p }) same_parent in
      one_place tree.nodes nodes i j (record { gate = b.gate_place; parent = before }) (a.there ∙ ap Some node) b.there

  one_node : (p q : Path) (pin other : Option Pin) (k i j : ℕ) → IsSamePrefix p pin q other k → IsNodeOf tree p pin k i → IsNodeOf tree q other k j → i ≡ j
  one_node p q pin other zero i j same a b = one_at i j _ _ _ _ (ap (λ (e : EdgeId). record { edge = e.0; port = None; pin = pin_at pin 0 }) same.start ∙ ap (λ (asked : Option Bool). record { edge = q.start.0; port = None; pin = asked }) (same.pins 0 (omega arith))) refl a b
  one_node p q pin other (suc k) i j same a b =
      let step = some_value a.step b.step (sym a.taken ∙ same.steps k (omega arith) ∙ b.taken) in
      let shorter : IsSamePrefix p pin q other k = record { start = same.start; steps = λ n below. same.steps n (omega (arith, below)); pins = λ n within. same.pins n (omega (arith, within)) } in
      one_at i j _ _ _ _ (ap (λ (s : Step). step_gate s pin (suc k)) step ∙ ap (λ (asked : Option Bool). record { edge = b.step.edge.0; port = Some b.step.port; pin = asked }) (same.pins (suc k) (omega arith))) (ap Some (one_node p q pin other k a.parent b.parent shorter a.before b.before)) a.node b.node

-- the tree of lists in which nothing stands twice
pub shared : (tree : Tree) (gates : List Gate) (nodes : List Node) → gates ≡ tree.gates → nodes ≡ tree.nodes → AllPairs (λ a b. a ≢ b) tree.gates → AllPairs (λ a b. a ≢ b) tree.nodes → IsShared (record { gates = gates; nodes = nodes })
shared tree gates nodes same_gates same_nodes gates_differ nodes_differ = subst IsShared (sym (tree_copied tree gates nodes same_gates same_nodes)) (record { one_node = one_node tree gates_differ nodes_differ })
