-- Each item and each instance has an edge, so that what is counted in names is no more than the edges.
use Rattle.std.proofs.Common.{◌≡◌, ℕ, zero, suc, ◌+◌, ◌<◌, ◌≤◌, ◌^◌, true, false, cond, is_some, Option, Some, None, List, [], ◌∷◌, length, refl, sym, subst, ◌∙◌, arith}
use Rattle.std.specs.List.{AllByRecursion}
use Rattle.lus_syntax.specs.declared.ast.Expr.{Expr}
use Rattle.lus_syntax.specs.declared.ast.Item.{Item}
use Rattle.lus_syntax.specs.declared.ast.Item.TheVariants.{Assert, Equation}
use Rattle.lus_types.specs.declared.types.Constant.{Constant}
use Rattle.lus_types.specs.Calls.{In}
use Rattle.lus_types.specs.Names.{Name, lefts}
use Rattle.lus_types.specs.Programs.{Node, Program, Variable, names, type_of_name}
use Rattle.lus_types.proofs.Trees.{Tree, t_call, t_cond, t_name, t_number, t_one, t_truth, t_two, tree_of}
use Rattle.node_expand.specs.Counts.{has_edge, has_edge_level, item_size, items_size, nodes_called, nodes_called_in, own_count, own_count_level, right_of, root_count}
use Rattle.node_expand.specs.Fragments.{Callees, size_of_all}
use Rattle.node_expand.specs.Instances.{size_over}
use Rattle.node_expand.specs.Names.{constant_in}
use Rattle.node_expand.specs.Nesting.{IsNested}
use Rattle.node_expand.specs.Network.{callees_within}
use Rattle.node_expand.proofs.Folds.{folded_call, folded_if, folded_name, folded_number, folded_one, folded_truth, folded_two}
use Rattle.node_expand.proofs.Lists.{all_append, all_left, all_right}
use Rattle.node_expand.proofs.ValidFacts.{IsExpandable, IsRooted, all_rooted}
use Rattle.node_expand.proofs.WellFormed.{defining}

name_own : (c : Option Constant) → is_some c ≡ true → 1 ≤ cond (is_some c) 1 0
name_own (Some c) h = omega arith
name_own None h = absurd (cc h)

-- the numbers in the names of an item's edges are as `decimal` writes them
pub record IsShort (program : Program) (node : Node) (item : Item) : Type 0 where
  pub rooted : IsRooted item
  pub own : own_count program node (right_of item) < 2 ^ 63
  pub called_few : length (nodes_called (right_of item)) < 2 ^ 63

module _ (program : Program) (node : Node) where
  -- an operator or a literal is an edge
  pub some_own : {e : Expr} → Tree e → has_edge program node e ≡ true → 1 ≤ own_count program node e
  some_own {e} (t_name x k) h = subst (λ n. 1 ≤ n) (sym (folded_name (own_count_level program node) e x k)) (name_own (constant_in program node x) (sym (folded_name (has_edge_level program node) e x k) ∙ h))
  some_own {e} (t_number n k) h = subst (λ n. 1 ≤ n) (sym (folded_number (own_count_level program node) e n k)) (omega arith)
  some_own {e} (t_truth b k) h = subst (λ n. 1 ≤ n) (sym (folded_truth (own_count_level program node) e b k)) (omega arith)
  some_own {e} (t_one o a k p) h = subst (λ n. 1 ≤ n) (sym (folded_one (own_count_level program node) e a o k)) (omega arith)
  some_own {e} (t_two o a b k p q) h = subst (λ n. 1 ≤ n) (sym (folded_two (own_count_level program node) e a b o k)) (omega arith)
  some_own {e} (t_cond a b c k p q r) h = subst (λ n. 1 ≤ n) (sym (folded_if (own_count_level program node) e a b c k)) (omega arith)
  some_own {e} (t_call g args k ps) h = let f : false ≡ true = sym (folded_call (has_edge_level program node) e g args k)
      ∙ h in absurd (cc f)

  some_root : (item : Item) → IsRooted item → 1 ≤ root_count item
  some_root (Assert at e) h = omega arith
  some_root (Equation at [] e) h = absurd h
  some_root (Equation at (s ∷ left) e) h = omega arith

  -- the edges of an item before its instances
  pub some_edge : (item : Item) → IsRooted item
      → 1 ≤ cond (has_edge program node (right_of item)) 0 (root_count item) + own_count program node (right_of item)
  some_edge item h = elim (has_edge program node (right_of item)) as (λ b. has_edge program node (right_of item) ≡ b → 1 ≤ cond b 0 (root_count item) + own_count program node (right_of item)) [
    | true ↦ λ is. omega (arith, some_own (tree_of (right_of item)) is)
    | false ↦ λ is. omega (arith, some_root item h)
  ] refl

  module _ (callees : Callees) where
    pub some_item : (item : Item) → IsRooted item → 1 ≤ item_size program node callees item
    some_item item h = omega (arith, some_edge item h)

    pub all_small : (most : ℕ) (gs : List Name) → size_of_all callees gs ≤ most → AllByRecursion (λ g. callees.size g ≤ most) gs
    all_small most [] h = tt
    all_small most (g ∷ gs) h = (omega arith, all_small most gs (omega arith))

    few_called : (gs : List Name) → AllByRecursion (λ g. 1 ≤ callees.size g) gs → length gs ≤ size_of_all callees gs
    few_called [] h = omega arith
    few_called (g ∷ gs) h = omega (arith, h.0, few_called gs h.1)

    pub items_few : (items : List Item) → AllByRecursion IsRooted items → length items ≤ items_size program node callees items
    items_few [] h = omega arith
    items_few (item ∷ items) h = omega (arith, some_item item h.0, items_few items h.1)

    pub items_small : (most : ℕ) (items : List Item) → items_size program node callees items ≤ most
        → AllByRecursion (λ g. callees.size g ≤ most) (nodes_called_in items)
    items_small most [] h = tt
    items_small most (item ∷ items) h =
        all_append (λ g. callees.size g ≤ most) (nodes_called (right_of item)) (nodes_called_in items)
        (all_small most (nodes_called (right_of item)) (omega arith)) (items_small most items (omega arith))

    pub items_short : (most : ℕ) → most < 2 ^ 63 → (items : List Item) → AllByRecursion IsRooted items
        → AllByRecursion (λ g. 1 ≤ callees.size g) (nodes_called_in items)
        → items_size program node callees items ≤ most → AllByRecursion (IsShort program node) items
    items_short most bound [] is some h = tt
    items_short most bound (item ∷ items) is some h = (
      record { rooted = is.0; own = omega arith; called_few = omega (arith, few_called (nodes_called (right_of item)) (all_left (λ g. 1 ≤ callees.size g) (nodes_called (right_of item)) (nodes_called_in items) some)) },
      items_short most bound items is.1 (all_right (λ g. 1 ≤ callees.size g) (nodes_called (right_of item)) (nodes_called_in items) some) (omega arith),
    )

    pub items_some : (items : List Item) (x : Name) → AllByRecursion IsRooted items → In x (lefts items)
        → 1 ≤ items_size program node callees items
    items_some [] x h i = elim i [ ]
    items_some (item ∷ items) x h i = omega (arith, some_item item h.0)

-- each instance of a node has an edge, since the node has an output
first_output : (P : Name → Type 0) (outputs : List Variable) → 1 ≤ length outputs → AllByRecursion P (names outputs) → (x : Name) × P x
first_output P [] h all = absurd (omega arith)
first_output P (v ∷ outputs) h all = (v.name, all.0)

pub some_size : (program : Program) → IsExpandable program → (depth : ℕ) (g : Name) → IsNested program depth g
    → 1 ≤ (callees_within program depth).size g
some_size program whole zero g nested = absurd nested
some_size program whole (suc depth) g nested =
    let node = nested.0 in
    let is = defining program node (whole.typed.nodes g node nested.1) in
    let w = first_output (λ x. In x (lefts node.items)) node.outputs (whole.outputs g node nested.1) is.outputs in
    subst (λ (o : Option Node). 1 ≤ size_over program (callees_within program depth) o) (sym nested.1)
    (items_some program node (callees_within program depth) node.items w.0 (all_rooted program whole (type_of_name program node) node.items is.items) w.1)

pub some_sizes : (program : Program) → IsExpandable program → (depth : ℕ) (gs : List Name)
    → AllByRecursion (IsNested program depth) gs → AllByRecursion (λ g. 1 ≤ (callees_within program depth).size g) gs
some_sizes program whole depth [] all = tt
some_sizes program whole depth (g ∷ gs) all = (some_size program whole depth g all.0, some_sizes program whole depth gs all.1)
