-- The nodes as code knows them are those of the program, where they are small and not nested too deep.
use Rattle.std.proofs.Common.{◌≡◌, ℕ, ◌+◌, ◌≤◌, min, List, [], ◌∷◌, ◌++◌, map, refl, sym, ap, ap₂, ◌∙◌, arith}
use Rattle.std.specs.List.{AllByRecursion, flat_map}
use Rattle.std.proofs.lemmas.List.{map-append}
use Rattle.op_network.specs.declared.limits.TheConstants.{MOST_EDGES}
use Rattle.lus_syntax.specs.declared.ast.Expr.{Expr}
use Rattle.lus_syntax.specs.declared.ast.Item.{Item}
use Rattle.lus_types.specs.declared.typed.Typed.{Typed}
use Rattle.lus_types.specs.Names.{Name}
use Rattle.lus_types.specs.Programs.{Node, Program}
use Rattle.lus_types.proofs.Trees.{Tree, Trees, t_call, t_cond, t_more, t_name, t_none, t_number, t_one, t_truth, t_two, tree_of}
use Rattle.node_expand.specs.declared.tables.Tables.{Tables}
use Rattle.node_expand.specs.Counts.{id_count, inner_place, item_size, nodes_called, nodes_called_level, own_count, right_of}
use Rattle.node_expand.specs.Fragments.{Callees, Places, fragment, size_of_all, total}
use Rattle.node_expand.specs.Instances.{item_fragment}
use Rattle.node_expand.specs.Known.{inner_count, inner_level}
use Rattle.node_expand.specs.Law.{program_in}
use Rattle.node_expand.specs.Making.{AreKnown, AreNested, callees_at, callees_in}
use Rattle.node_expand.proofs.Deeper.{nested_within}
use Rattle.node_expand.proofs.Folds.{folded_call, folded_if, folded_name, folded_number, folded_one, folded_truth, folded_two}
use Rattle.node_expand.proofs.SameFragments.{SameShape, same_fragment, sizes_same}

total_append : (xs ys : List ℕ) → total (xs ++ ys) ≡ total xs + total ys
total_append [] ys = omega arith
total_append (x ∷ xs) ys = let h = total_append xs ys in omega (arith, h)

pub size_append : (c : Callees) (xs ys : List Name) → size_of_all c (xs ++ ys) ≡ size_of_all c xs + size_of_all c ys
size_append c xs ys = ap total (map-append c.size xs ys) ∙ total_append (map c.size xs) (map c.size ys)

module _ (c : Callees) where
  mutual
    tree_inner : {e : Expr} → Tree e → inner_count c e ≡ size_of_all c (nodes_called e)
    tree_inner {e} (t_name x k) = folded_name (inner_level c) e x k ∙ sym (ap (size_of_all c) (folded_name nodes_called_level e x k))
    tree_inner {e} (t_number x k) = folded_number (inner_level c) e x k ∙ sym (ap (size_of_all c) (folded_number nodes_called_level e x k))
    tree_inner {e} (t_truth x k) = folded_truth (inner_level c) e x k ∙ sym (ap (size_of_all c) (folded_truth nodes_called_level e x k))
    tree_inner {e} (t_one op a k p) = folded_one (inner_level c) e a op k ∙ tree_inner p ∙ sym (ap (size_of_all c) (folded_one nodes_called_level e a op k))
    tree_inner {e} (t_two op a b k p q) =
        folded_two (inner_level c) e a b op k ∙ ap₂ (λ i j. i + j) (tree_inner p) (tree_inner q)
        ∙ sym (size_append c (nodes_called a) (nodes_called b)) ∙ sym (ap (size_of_all c) (folded_two nodes_called_level e a b op k))
    tree_inner {e} (t_cond x y z k p q r) =
        folded_if (inner_level c) e x y z k
        ∙ ap₂ (λ i j. i + j) (tree_inner p) (ap₂ (λ i j. i + j) (tree_inner q) (tree_inner r) ∙ sym (size_append c (nodes_called y) (nodes_called z)))
        ∙ sym (size_append c (nodes_called x) (nodes_called y ++ nodes_called z)) ∙ sym (ap (size_of_all c) (folded_if nodes_called_level e x y z k))
    tree_inner {e} (t_call f args k ps) =
        folded_call (inner_level c) e f args k ∙ ap (λ n. c.size f + n) (trees_inner ps)
        ∙ sym (ap (size_of_all c) (folded_call nodes_called_level e f args k))

    trees_inner : {es : List Expr} → Trees es → total (map (inner_count c) es) ≡ size_of_all c (flat_map (λ names. names) (map nodes_called es))
    trees_inner t_none = refl
    trees_inner (t_more {e = e} {es = es} p ps) =
        ap₂ (λ i j. i + j) (tree_inner p) (trees_inner ps) ∙ sym (size_append c (nodes_called e) (flat_map (λ names. names) (map nodes_called es)))

  pub inner_counted : (e : Expr) → inner_count c e ≡ size_of_all c (nodes_called e)
  inner_counted e = tree_inner (tree_of e)

-- what is known of nodes that are called
pub all_known : (typed : Typed) (tables : Tables) (known : AreKnown typed tables) (below : ℕ) → below ≤ tables.depth → (gs : List Name)
    → AreNested typed below gs → size_of_all (callees_at typed tables) gs ≤ MOST_EDGES
    → AllByRecursion (SameShape (callees_in typed tables) (callees_at typed tables)) gs
all_known typed tables known below deep [] nested room = tt
all_known typed tables known below deep (g ∷ gs) nested room =
    let agree = known.callees g (nested_within (program_in typed) below tables.depth g deep nested.0) (omega (arith, room)) in
    (record { size = agree.size; results = agree.results }, all_known typed tables known below deep gs nested.1 (omega (arith, room)))

module _ (typed : Typed) (tables : Tables) (known : AreKnown typed tables) (below : ℕ) (deep : below ≤ tables.depth) (node : Node) (item : Item) (nested : AreNested typed below (nodes_called (right_of item))) where
  abbrev p : Program
  p = program_in typed

  abbrev full : Callees
  full = callees_at typed tables

  shapes : (next : ℕ) → next + item_size p node full item ≤ MOST_EDGES → AllByRecursion (SameShape (callees_in typed tables) full) (nodes_called (right_of item))
  shapes next room = all_known typed tables known below deep (nodes_called (right_of item)) nested (omega (arith, room))

  -- an item's right side is the same by what code knows
  pub right_known : (places : Places) (expr : Expr) (next ids own at inner : ℕ) → expr ≡ right_of item → next + item_size p node full item ≤ MOST_EDGES
      → ids ≡ min (id_count p node item) 0xFFFF_FFFF → own ≡ min (own_count p node expr) 0xFFFF_FFFF → at ≡ next + ids → inner ≡ at + own
      → fragment p node (callees_in typed tables) places expr at inner ≡ item_fragment p node full places next item
  right_known places expr next ids own at inner is room i o a n =
      let count : own ≡ min (own_count p node (right_of item)) 0xFFFF_FFFF = o ∙ ap (λ e. min (own_count p node e) 0xFFFF_FFFF) is in
      let begins : at ≡ next + id_count p node item = omega (arith, room, i, a) in
      let behind : inner ≡ inner_place p node next item = omega (arith, room, i, a, n, count) in
      (λ j. fragment p node (callees_in typed tables) places (is j) (begins j) (behind j))
      ∙ same_fragment p node places (callees_in typed tables) full (tree_of (right_of item)) (shapes next room) (next + id_count p node item) (inner_place p node next item)

  -- there is room for its own edges and its instances
  pub own_room : (expr : Expr) (next ids : ℕ) → expr ≡ right_of item → next + item_size p node full item ≤ MOST_EDGES
      → ids ≡ min (id_count p node item) 0xFFFF_FFFF → (next + ids) + own_count p node expr ≤ MOST_EDGES
  own_room expr next ids is room i =
      let count : own_count p node expr ≡ own_count p node (right_of item) = ap (own_count p node) is in omega (arith, room, i, count)

  pub inner_room : (expr : Expr) (next ids own : ℕ) → expr ≡ right_of item → next + item_size p node full item ≤ MOST_EDGES
      → ids ≡ min (id_count p node item) 0xFFFF_FFFF → own ≡ min (own_count p node expr) 0xFFFF_FFFF → ((next + ids) + own) + inner_count (callees_in typed tables) expr ≤ MOST_EDGES
  inner_room expr next ids own is room i o =
      let count : own ≡ min (own_count p node (right_of item)) 0xFFFF_FFFF = o ∙ ap (λ e. min (own_count p node e) 0xFFFF_FFFF) is in
      let size : inner_count (callees_in typed tables) expr ≡ size_of_all full (nodes_called (right_of item)) = ap (inner_count (callees_in typed tables)) is ∙ inner_counted (callees_in typed tables) (right_of item) ∙ sizes_same (callees_in typed tables) full (nodes_called (right_of item)) (shapes next room) in
      omega (arith, room, i, count, size)
