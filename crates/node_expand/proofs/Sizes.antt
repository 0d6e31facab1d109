-- How many edges items and instances have, and where variables stand among them.
use Rattle.std.proofs.Common.{Bool, List, None, Option, Some, [], ap, ap₂, arith, cond, false, is_some, length, length-append, map, refl, subst, suc, sym, true, zero, ℕ, ◌++◌, ◌+◌, ◌||◌, ◌∙◌, ◌∷◌, ◌≡◌}
use Rattle.std.proofs.lemmas.List.{length-map}
use Rattle.std.specs.List.{AllByRecursion}
use Rattle.lus_syntax.specs.declared.ast.Expr.{Expr}
use Rattle.lus_syntax.specs.declared.ast.Item.{Item}
use Rattle.lus_syntax.specs.declared.ast.Item.TheVariants.{Assert, Equation}
use Rattle.lus_types.proofs.Members.{in_left, in_right}
use Rattle.lus_types.proofs.Trees.{Tree, t_call, t_cond, t_name, t_number, t_one, t_truth, t_two, tree_of}
use Rattle.lus_types.specs.Calls.{In}
use Rattle.lus_types.specs.Names.{Name, left_of, lefts}
use Rattle.lus_types.specs.ProgramTypes.{AreDistinct}
use Rattle.lus_types.specs.Programs.{Node, Program, Variable}
use Rattle.lus_types.specs.declared.types.Constant.{Constant}
use Rattle.op_network.specs.declared.edge.Edge.{Edge}
use Rattle.op_network.specs.declared.value.Ty.{Ty}
use Rattle.node_expand.specs.Counts.{has_edge, has_edge_level, id_count, inner_place, item_size, items_size, nodes_called, nodes_called_in, own_count, right_of}
use Rattle.node_expand.specs.Fragments.{Call, Callees, Places, fragment, name_fragment, nodes_of, place_level, place_of, size_of_all}
use Rattle.node_expand.specs.Instances.{edges_over, first_name, id_edges, instance_edges, is_assertion, item_edges, item_fragment, item_places, items_edges, next_assertion, own_edges, places_from, places_over, roots_of, size_over}
use Rattle.node_expand.specs.Names.{constant_in}
use Rattle.node_expand.specs.Nesting.{IsNested}
use Rattle.node_expand.specs.Network.{callees_within}
use Rattle.node_expand.proofs.Counted.{calls_counted, own_counted}
use Rattle.node_expand.proofs.Folds.{folded_call, folded_if, folded_name, folded_number, folded_one, folded_truth, folded_two}
use Rattle.node_expand.proofs.Holding.{ids_length, own_length}
use Rattle.node_expand.proofs.Lists.{all_left, all_right, map_same}
use Rattle.node_expand.proofs.Places.{apart, distinct_left, distinct_right, places_behind, places_length, places_paired}

-- every instance of the node has as many edges as its size says
pub record HasSize (callees : Callees) (g : Name) : Type 0 where
  pub each : (args : List ℕ) (prefix : Name) (marked : Bool) (start : ℕ)
      → length (callees.edges g args prefix marked start) ≡ callees.size g

pub instances_length : (callees : Callees) (x : Name) (marked : Bool) (j start : ℕ) (calls : List Call)
    → AllByRecursion (HasSize callees) (nodes_of calls)
    → length (instance_edges callees x marked j start calls) ≡ size_of_all callees (nodes_of calls)
instances_length callees x marked j start [] all = refl
instances_length callees x marked j start (c ∷ calls) all =
    length-append (callees.edges c.node c.args _ marked start) _
    ∙ ap₂ (λ m n. m + n) (all.0.each c.args _ marked start) (instances_length callees x marked (suc j) (start + callees.size c.node) calls all.1)

ids_part : (prefix : Name) (marked b : Bool) (roots : List Variable) (values : List ℕ)
    → length (cond b [] (id_edges prefix marked roots values)) ≡ cond b 0 (length roots)
ids_part prefix marked true roots values = refl
ids_part prefix marked false roots values = ids_length prefix marked roots values

ids_counted : (program : Program) (node : Node) (k : ℕ) (item : Item)
    → cond (has_edge program node (right_of item)) 0 (length (roots_of program node k item)) ≡ id_count program node item
ids_counted program node k (Assert at e) = refl
ids_counted program node k (Equation at left e) = ap (λ m. cond (has_edge program node e) 0 m) (length-map left _)

-- the parts of an item's edges
abbrev pub ids_of : Program → Node → Callees → Places → Name → Bool → ℕ → ℕ → Item → List Edge
ids_of program node callees table prefix asserted next k item = cond (has_edge program node (right_of item)) [] (id_edges prefix (asserted || is_assertion item) (roots_of program node k item) (item_fragment program node callees table next item).values)

abbrev pub owns_of : Program → Node → Callees → Places → Name → Bool → ℕ → ℕ → Item → List Edge
owns_of program node callees table prefix asserted next k item = own_edges (prefix ++ first_name (roots_of program node k item)) (asserted || is_assertion item) (cond (has_edge program node (right_of item)) 0 1) (item_fragment program node callees table next item).own

abbrev pub inners_of : Program → Node → Callees → Places → Name → Bool → ℕ → ℕ → Item → List Edge
inners_of program node callees table prefix asserted next k item = instance_edges callees (prefix ++ first_name (roots_of program node k item)) (asserted || is_assertion item) 1 (inner_place program node next item) (item_fragment program node callees table next item).calls

pub ids_of_length : (program : Program) (node : Node) (callees : Callees) (table : Places) (prefix : Name) (asserted : Bool) (next k : ℕ) (item : Item)
    → length (ids_of program node callees table prefix asserted next k item) ≡ id_count program node item
ids_of_length program node callees table prefix asserted next k item = ids_part prefix _ (has_edge program node (right_of item)) (roots_of program node k item) _
    ∙ ids_counted program node k item

pub owns_of_length : (program : Program) (node : Node) (callees : Callees) (table : Places) (prefix : Name) (asserted : Bool) (next k : ℕ) (item : Item)
    → length (owns_of program node callees table prefix asserted next k item) ≡ own_count program node (right_of item)
owns_of_length program node callees table prefix asserted next k item = own_length _ _ _ (item_fragment program node callees table next item).own
    ∙ own_counted program node callees table (right_of item) _ _

pub item_length : (program : Program) (node : Node) (callees : Callees) (table : Places) (prefix : Name) (asserted : Bool) (next k : ℕ) (item : Item)
    → AllByRecursion (HasSize callees) (nodes_called (right_of item))
    → length (item_edges program node callees table prefix asserted next k item) ≡ item_size program node callees item
item_length program node callees table prefix asserted next k item all =
    let counted : nodes_of (item_fragment program node callees table next item).calls ≡ nodes_called (right_of item) = calls_counted program node callees table (right_of item) _ _ in
    let ids = ids_of_length program node callees table prefix asserted next k item in
    let owns = owns_of_length program node callees table prefix asserted next k item in
    let inners = instances_length callees (prefix ++ first_name (roots_of program node k item)) (asserted || is_assertion item) 1 (inner_place program node next item) (item_fragment program node callees table next item).calls (subst (AllByRecursion (HasSize callees)) (sym counted) all) ∙ ap (size_of_all callees) counted in
    length-append (ids_of program node callees table prefix asserted next k item) _
    ∙ ap₂ (λ m n. m + n) ids (length-append (owns_of program node callees table prefix asserted next k item) _ ∙ ap₂ (λ m n. m + n) owns inners)
    ∙ omega arith

pub items_length : (program : Program) (node : Node) (callees : Callees) (table : Places) (prefix : Name) (asserted : Bool) (next k : ℕ) (items : List Item)
    → AllByRecursion (HasSize callees) (nodes_called_in items)
    → length (items_edges program node callees table prefix asserted next k items) ≡ items_size program node callees items
items_length program node callees table prefix asserted next k [] all = refl
items_length program node callees table prefix asserted next k (item ∷ items) all =
    length-append (item_edges program node callees table prefix asserted next k item) _
    ∙ ap₂ (λ m n. m + n)
    (item_length program node callees table prefix asserted next k item (all_left (HasSize callees) (nodes_called (right_of item)) _ all))
    (items_length program node callees table prefix asserted (next + item_size program node callees item) (next_assertion k item) items (all_right (HasSize callees) (nodes_called (right_of item)) _ all))

-- each is one that has its size
sized_each : (program : Program) (depth : ℕ) (gs : List Name)
    → ((g : Name) → IsNested program depth g → HasSize (callees_within program depth) g)
    → AllByRecursion (IsNested program depth) gs → AllByRecursion (HasSize (callees_within program depth)) gs
sized_each program depth [] f all = tt
sized_each program depth (g ∷ gs) f all = (f g all.0, sized_each program depth gs f all.1)

pub sized : (program : Program) (depth : ℕ) (g : Name) → IsNested program depth g → HasSize (callees_within program depth) g
sized program zero g nested = absurd nested
sized program (suc depth) g nested = record {
  each = λ args prefix marked start. subst (λ (o : Option Node). length (edges_over program (callees_within program depth) o args prefix marked start) ≡ size_over program (callees_within program depth) o) (sym nested.1)
      (items_length program nested.0 (callees_within program depth) (places_over program nested.0 (callees_within program depth) args start) prefix marked start 1 nested.0.items
      (sized_each program depth (nodes_called_in nested.0.items) (sized program depth) nested.2));
}

pub sized_all : (program : Program) (depth : ℕ) (gs : List Name) → AllByRecursion (IsNested program depth) gs
    → AllByRecursion (HasSize (callees_within program depth)) gs
sized_all program depth gs all = sized_each program depth gs (sized program depth) all

-- an expression with an edge for itself has that edge as its value
name_value : (c : Option Constant) (ty : Ty) (place at : ℕ) → is_some c ≡ true → (name_fragment c ty place at).values ≡ at ∷ []
name_value (Some c) ty place at h = refl
name_value None ty place at h = absurd (cc h)

module _ (program : Program) (node : Node) (callees : Callees) (table : Places) where
  tree_value : {e : Expr} → Tree e → has_edge program node e ≡ true → (at inner : ℕ)
      → (fragment program node callees table e at inner).values ≡ at ∷ []
  tree_value {e} (t_name x k) h at inner = ap (λ m. (m at inner).values) (folded_name (place_level program node callees table) e x k)
      ∙ name_value (constant_in program node x) _ (place_of table x) at (sym (folded_name (has_edge_level program node) e x k) ∙ h)
  tree_value {e} (t_number n k) h at inner = ap (λ m. (m at inner).values) (folded_number (place_level program node callees table) e n k)
  tree_value {e} (t_truth b k) h at inner = ap (λ m. (m at inner).values) (folded_truth (place_level program node callees table) e b k)
  tree_value {e} (t_one o a k p) h at inner = ap (λ m. (m at inner).values) (folded_one (place_level program node callees table) e a o k)
  tree_value {e} (t_two o a b k p q) h at inner = ap (λ m. (m at inner).values) (folded_two (place_level program node callees table) e a b o k)
  tree_value {e} (t_cond a b c k p q r) h at inner = ap (λ m. (m at inner).values) (folded_if (place_level program node callees table) e a b c k)
  tree_value {e} (t_call g args k ps) h at inner = let f : false ≡ true = sym (folded_call (has_edge_level program node) e g args k)
      ∙ h in absurd (cc f)

  pub own_value : (e : Expr) → has_edge program node e ≡ true → (at inner : ℕ)
      → (fragment program node callees table e at inner).values ≡ at ∷ []
  own_value e h at inner = tree_value (tree_of e) h at inner

  -- the items' variables stand at their roots
  abbrev pub Placed : ℕ → List Item → Type 0
  Placed next [] = Unit {0}
  Placed next (item ∷ items) = (map (place_of table) (left_of item) ≡ places_from next (left_of item)) × Placed (next + item_size program node callees item) items

  pub placed : (next : ℕ) (items : List Item) → AreDistinct (lefts items)
      → ((x : Name) → In x (lefts items) → place_of table x ≡ place_of (item_places program node callees next items) x)
      → Placed next items
  placed next [] distinct same = tt
  placed next (item ∷ items) distinct same = (
    map_same _ _ (left_of item) (λ x i. same x (in_left (left_of item) (lefts items) x i))
        ∙ places_paired (left_of item) (places_from next (left_of item)) (item_places program node callees (next + item_size program node callees item) items) (distinct_left (left_of item) (lefts items) distinct) (places_length next (left_of item)),
    placed (next + item_size program node callees item) items (distinct_right (left_of item) (lefts items) distinct)
        (λ x i. same x (in_right (left_of item) (lefts items) x i) ∙ places_behind (left_of item) (places_from next (left_of item)) _ x (λ j. apart (left_of item) (lefts items) x distinct j i)),
  )
