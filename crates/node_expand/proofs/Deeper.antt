-- Two accounts of the nodes that may be called give an instance the same edges, where they have the same of those nodes; so
-- more depth changes nothing.
use Rattle.std.proofs.Common.{Bool, List, Some, [], ap, ap₂, arith, cond, eq-or-lt_of_le, inl, inr, map, refl, subst, suc, sym, zero, zip, ℕ, ◌++◌, ◌+◌, ◌||◌, ◌∙◌, ◌∷◌, ◌≡◌, ◌≤◌}
use Rattle.std.specs.List.{AllByRecursion}
use Rattle.lus_syntax.specs.declared.ast.Item.{Item}
use Rattle.lus_types.proofs.Trees.{tree_of}
use Rattle.lus_types.specs.Names.{Name, left_of}
use Rattle.lus_types.specs.Programs.{Node, Program, names}
use Rattle.op_network.specs.declared.edge.Edge.{Edge}
use Rattle.node_expand.specs.Counts.{has_edge, id_count, item_size, items_size, nodes_called, nodes_called_in, own_count, right_of}
use Rattle.node_expand.specs.Fragments.{Call, Callees, Fragment, Places, nodes_of, place_of}
use Rattle.node_expand.specs.Instances.{asserts_over, edges_over, first_name, id_edges, instance_asserts, instance_edges, instance_prefix, is_assertion, item_edges, item_fragment, item_places, items_asserts, items_edges, next_assertion, own_edges, places_from, places_over, results_over, root_asserts, roots_of, size_over}
use Rattle.node_expand.specs.Nesting.{IsNested}
use Rattle.node_expand.specs.Network.{callees_within}
use Rattle.node_expand.proofs.Counted.{calls_counted}
use Rattle.node_expand.proofs.Lists.{all_left, all_right}
use Rattle.node_expand.proofs.SameFragments.{SameShape, same_fragment, sizes_same}

-- both have the same of a node
pub record SameNode (c d : Callees) (g : Name) : Type 0 where
  pub shape : SameShape c d g
  pub asserts : (start : ℕ) → c.asserts g start ≡ d.asserts g start
  pub edges : (args : List ℕ) (prefix : Name) (marked : Bool) (start : ℕ)
      → c.edges g args prefix marked start ≡ d.edges g args prefix marked start

pub shapes : (c d : Callees) (gs : List Name) → AllByRecursion (SameNode c d) gs → AllByRecursion (SameShape c d) gs
shapes c d [] all = tt
shapes c d (g ∷ gs) all = (all.0.shape, shapes c d gs all.1)

module _ (program : Program) (c d : Callees) where
  instances_same : (x : Name) (marked : Bool) (j start : ℕ) (calls : List Call)
      → AllByRecursion (SameNode c d) (nodes_of calls)
      → instance_edges c x marked j start calls ≡ instance_edges d x marked j start calls
  instances_same x marked j start [] all = refl
  instances_same x marked j start (k ∷ calls) all =
      ap₂ (λ l n. l ++ instance_edges c x marked (suc j) (start + n) calls) (all.0.edges k.args (instance_prefix x k.node j) marked start) all.0.shape.size
      ∙ ap (λ l. d.edges k.node k.args (instance_prefix x k.node j) marked start ++ l) (instances_same x marked (suc j) (start + d.size k.node) calls all.1)

  asserts_same : (start : ℕ) (gs : List Name) → AllByRecursion (SameNode c d) gs → instance_asserts c start gs ≡ instance_asserts d start gs
  asserts_same start [] all = refl
  asserts_same start (g ∷ gs) all =
      ap₂ (λ l n. l ++ instance_asserts c (start + n) gs) (all.0.asserts start) all.0.shape.size
      ∙ ap (λ l. d.asserts g start ++ l) (asserts_same (start + d.size g) gs all.1)

  module _ (node : Node) where
    item_size_same : (item : Item) → AllByRecursion (SameShape c d) (nodes_called (right_of item))
        → item_size program node c item ≡ item_size program node d item
    item_size_same item all = ap (λ s. id_count program node item + own_count program node (right_of item) + s) (sizes_same c d (nodes_called (right_of item)) all)

    items_size_same : (items : List Item) → AllByRecursion (SameShape c d) (nodes_called_in items)
        → items_size program node c items ≡ items_size program node d items
    items_size_same [] all = refl
    items_size_same (item ∷ items) all = ap₂ (λ i j. i + j) (item_size_same item (all_left (SameShape c d) (nodes_called (right_of item)) _ all)) (items_size_same items (all_right (SameShape c d) (nodes_called (right_of item)) _ all))

    pub places_same : (next : ℕ) (items : List Item) → AllByRecursion (SameShape c d) (nodes_called_in items)
        → item_places program node c next items ≡ item_places program node d next items
    places_same next [] all = refl
    places_same next (item ∷ items) all =
        ap (λ s. zip (left_of item) (places_from next (left_of item)) ++ item_places program node c (next + s) items) (item_size_same item (all_left (SameShape c d) (nodes_called (right_of item)) _ all))
        ∙ ap (λ l. zip (left_of item) (places_from next (left_of item)) ++ l) (places_same (next + item_size program node d item) items (all_right (SameShape c d) (nodes_called (right_of item)) _ all))

    items_asserts_same : (next : ℕ) (items : List Item) → AllByRecursion (SameNode c d) (nodes_called_in items)
        → items_asserts program node c next items ≡ items_asserts program node d next items
    items_asserts_same next [] all = refl
    items_asserts_same next (item ∷ items) all =
        ap₂ (λ l s. (root_asserts next item ++ l) ++ items_asserts program node c (next + s) items) (asserts_same (next + id_count program node item + own_count program node (right_of item)) (nodes_called (right_of item)) (all_left (SameNode c d) (nodes_called (right_of item)) _ all)) (item_size_same item (shapes c d (nodes_called (right_of item)) (all_left (SameNode c d) (nodes_called (right_of item)) _ all)))
        ∙ ap (λ l. (root_asserts next item ++ instance_asserts d (next + id_count program node item + own_count program node (right_of item)) (nodes_called (right_of item))) ++ l) (items_asserts_same (next + item_size program node d item) items (all_right (SameNode c d) (nodes_called (right_of item)) _ all))

    -- the edges of an item over what is fragment of its right side
    abbrev over_fragment : Callees → Name → Bool → ℕ → ℕ → Item → Fragment → List Edge
    over_fragment e prefix asserted next k item m =
        cond (has_edge program node (right_of item)) [] (id_edges prefix (asserted || is_assertion item) (roots_of program node k item) m.values)
        ++ (own_edges (prefix ++ first_name (roots_of program node k item)) (asserted || is_assertion item) (cond (has_edge program node (right_of item)) 0 1) m.own
        ++ instance_edges e (prefix ++ first_name (roots_of program node k item)) (asserted || is_assertion item) 1 (next + id_count program node item + own_count program node (right_of item)) m.calls)

    item_same : (table : Places) (prefix : Name) (asserted : Bool) (next k : ℕ) (item : Item)
        → AllByRecursion (SameNode c d) (nodes_called (right_of item))
        → item_edges program node c table prefix asserted next k item ≡ item_edges program node d table prefix asserted next k item
    item_same table prefix asserted next k item all =
        let m = item_fragment program node d table next item in
        ap (over_fragment c prefix asserted next k item) (same_fragment program node table c d (tree_of (right_of item)) (shapes c d (nodes_called (right_of item)) all) (next + id_count program node item) (next + id_count program node item + own_count program node (right_of item)))
        ∙ ap (λ l. cond (has_edge program node (right_of item)) [] (id_edges prefix (asserted || is_assertion item) (roots_of program node k item) m.values) ++ (own_edges (prefix ++ first_name (roots_of program node k item)) (asserted || is_assertion item) (cond (has_edge program node (right_of item)) 0 1) m.own ++ l))
        (instances_same (prefix ++ first_name (roots_of program node k item)) (asserted || is_assertion item) 1 (next + id_count program node item + own_count program node (right_of item)) m.calls
        (subst (AllByRecursion (SameNode c d)) (sym (calls_counted program node d table (right_of item) (next + id_count program node item) (next + id_count program node item + own_count program node (right_of item)))) all))

    items_same : (table : Places) (prefix : Name) (asserted : Bool) (next k : ℕ) (items : List Item)
        → AllByRecursion (SameNode c d) (nodes_called_in items)
        → items_edges program node c table prefix asserted next k items ≡ items_edges program node d table prefix asserted next k items
    items_same table prefix asserted next k [] all = refl
    items_same table prefix asserted next k (item ∷ items) all =
        ap₂ (λ l s. l ++ items_edges program node c table prefix asserted (next + s) (next_assertion k item) items) (item_same table prefix asserted next k item (all_left (SameNode c d) (nodes_called (right_of item)) _ all)) (item_size_same item (shapes c d (nodes_called (right_of item)) (all_left (SameNode c d) (nodes_called (right_of item)) _ all)))
        ∙ ap (λ l. item_edges program node d table prefix asserted next k item ++ l) (items_same table prefix asserted (next + item_size program node d item) (next_assertion k item) items (all_right (SameNode c d) (nodes_called (right_of item)) _ all))

  -- what agrees on the nodes that a node calls agrees on the node
  node_same : (node : Node) → AllByRecursion (SameNode c d) (nodes_called_in node.items)
      → (size_over program c (Some node) ≡ size_over program d (Some node)) × ((start : ℕ) → results_over program c (Some node) start ≡ results_over program d (Some node) start) × ((start : ℕ) → asserts_over program c (Some node) start ≡ asserts_over program d (Some node) start)
      × ((args : List ℕ) (prefix : Name) (marked : Bool) (start : ℕ) → edges_over program c (Some node) args prefix marked start ≡ edges_over program d (Some node) args prefix marked start)
  node_same node all = (
    items_size_same node node.items (shapes c d (nodes_called_in node.items) all),
    (λ start. ap (λ p. map (place_of p) (names node.outputs)) (places_same node start node.items (shapes c d (nodes_called_in node.items) all))),
    (λ start. items_asserts_same node start node.items all),
    (λ args prefix marked start. ap (λ p. items_edges program node c (zip (names node.inputs) args ++ p) prefix marked start 1 node.items) (places_same node start node.items (shapes c d (nodes_called_in node.items) all)) ∙ items_same node (places_over program node d args start) prefix marked start 1 node.items all),
  )

nested_each : (program : Program) (depth : ℕ) (gs : List Name)
    → ((g : Name) → IsNested program depth g → IsNested program (suc depth) g)
    → AllByRecursion (IsNested program depth) gs → AllByRecursion (IsNested program (suc depth)) gs
nested_each program depth [] f all = tt
nested_each program depth (g ∷ gs) f all = (f g all.0, nested_each program depth gs f all.1)

pub nested_deeper : (program : Program) (depth : ℕ) (g : Name) → IsNested program depth g → IsNested program (suc depth) g
nested_deeper program zero g nested = absurd nested
nested_deeper program (suc depth) g nested = (nested.0, nested.1, nested_each program depth (nodes_called_in nested.0.items) (nested_deeper program depth) nested.2)

pub agree_each : (program : Program) (depth : ℕ) (gs : List Name)
    → ((g : Name) → IsNested program depth g → SameNode (callees_within program depth) (callees_within program (suc depth)) g)
    → AllByRecursion (IsNested program depth) gs
    → AllByRecursion (SameNode (callees_within program depth) (callees_within program (suc depth))) gs
agree_each program depth [] f all = tt
agree_each program depth (g ∷ gs) f all = (f g all.0, agree_each program depth gs f all.1)

-- More depth changes nothing for a node that is nested at most so deep.
pub known_deeper : (program : Program) (depth : ℕ) (g : Name) → IsNested program depth g
    → SameNode (callees_within program depth) (callees_within program (suc depth)) g
known_deeper program zero g nested = absurd nested
known_deeper program (suc depth) g nested =
    let same = node_same program (callees_within program depth) (callees_within program (suc depth)) nested.0 (agree_each program depth (nodes_called_in nested.0.items) (known_deeper program depth) nested.2) in
    let found = nested.1 in
    record {
      shape = record {
        size = ap (size_over program (callees_within program depth)) found ∙ same.0
            ∙ sym (ap (size_over program (callees_within program (suc depth))) found);
        results = λ start. ap (λ o. results_over program (callees_within program depth) o start) found ∙ same.1 start
            ∙ sym (ap (λ o. results_over program (callees_within program (suc depth)) o start) found);
      };
      asserts = λ start. ap (λ o. asserts_over program (callees_within program depth) o start) found ∙ same.2 start
          ∙ sym (ap (λ o. asserts_over program (callees_within program (suc depth)) o start) found);
      edges = λ args prefix marked start. ap (λ o. edges_over program (callees_within program depth) o args prefix marked start) found
          ∙ same.3 args prefix marked start
          ∙ sym (ap (λ o. edges_over program (callees_within program (suc depth)) o args prefix marked start) found);
    }

same_again : (c d e : Callees) (g : Name) → SameNode c d g → SameNode d e g → SameNode c e g
same_again c d e g h k = record {
  shape = record { size = h.shape.size ∙ k.shape.size; results = λ start. h.shape.results start ∙ k.shape.results start };
  asserts = λ start. h.asserts start ∙ k.asserts start;
  edges = λ args prefix marked start. h.edges args prefix marked start ∙ k.edges args prefix marked start;
}

same_itself : (c : Callees) (g : Name) → SameNode c c g
same_itself c g = record { shape = record { size = refl; results = λ start. refl }; asserts = λ start. refl; edges = λ args prefix marked start. refl }

pub nested_within : (program : Program) (depth more : ℕ) (g : Name) → depth ≤ more → IsNested program depth g → IsNested program more g
nested_within program depth zero g h nested = let none : depth ≡ 0 = omega (arith, h) in subst (λ k. IsNested program k g) none nested
nested_within program depth (suc more) g h nested = elim (eq-or-lt_of_le h) [
  | inl is ↦ subst (λ k. IsNested program k g) is nested
  | inr less ↦ nested_deeper program more g (nested_within program depth more g (omega (arith, less)) nested)
]

-- Any more depth changes nothing for a node that is nested at most so deep.
pub known_within : (program : Program) (depth more : ℕ) (g : Name) → depth ≤ more → IsNested program depth g
    → SameNode (callees_within program depth) (callees_within program more) g
known_within program depth zero g h nested = let none : depth ≡ 0 = omega (arith, h) in absurd (subst (λ k. IsNested program k g) none nested)
known_within program depth (suc more) g h nested = elim (eq-or-lt_of_le h) [
  | inl is ↦ subst (λ k. SameNode (callees_within program depth) (callees_within program k) g) is (same_itself (callees_within program depth) g)
  | inr less ↦ same_again (callees_within program depth) (callees_within program more) (callees_within program (suc more)) g
      (known_within program depth more g (omega (arith, less)) nested) (known_deeper program more g (nested_within program depth more g (omega (arith, less)) nested))
]
