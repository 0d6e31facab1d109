-- The outputs of a network are different edges, and so are its asserted edges.
use Rattle.std.proofs.Common.{◌≡◌, ◌≢◌, ℕ, zero, suc, ◌+◌, ◌≤◌, Bool, true, false, cond, Option, List, [], ◌∷◌, ◌++◌, length, map, zip, refl, sym, ap, ap₂, subst, ◌∙◌, arith}
use Rattle.std.proofs.lemmas.List.{length-map, map-append}
use Rattle.std.specs.List.{AllByRecursion}
use Rattle.std.specs.Prelude.{AllPairs}
use Rattle.lus_syntax.specs.declared.ast.Item.{Item}
use Rattle.lus_syntax.specs.declared.ast.Item.TheVariants.{Assert, Equation}
use Rattle.lus_syntax.specs.declared.ast.Spot.{Spot}
use Rattle.op_network.specs.declared.edge.EdgeId.{EdgeId}
use Rattle.op_network.specs.declared.value.Ty.{Ty}
use Rattle.lus_types.specs.Calls.{In}
use Rattle.lus_types.specs.Names.{Name, left_of, lefts, spot_names}
use Rattle.lus_types.specs.Programs.{Node, Program, Variable, names, type_of_name}
use Rattle.lus_types.specs.ProgramTypes.{AreDistinct, IsTypedItem, NamesHaveTypes, more_names, no_names, typed_equation}
use Rattle.lus_types.proofs.Trees.{tree_of}
use Rattle.node_expand.specs.Counts.{has_edge, inner_place, item_size, items_size, nodes_called, nodes_called_in, own_count, right_of}
use Rattle.node_expand.specs.Fragments.{Callees, edge, place_of, size_of_all}
use Rattle.node_expand.specs.Instances.{asserts_over, instance_asserts, item_asserts, item_places, items_asserts, places_from, results_over, root_asserts, size_over}
use Rattle.node_expand.specs.Nesting.{IsNested}
use Rattle.node_expand.specs.Network.{callees_within}
use Rattle.node_expand.proofs.Lists.{all_in, all_left, all_right, map_same}
use Rattle.node_expand.proofs.Places.{apart, distinct_left, distinct_right, places_behind, places_length, places_paired}
use Rattle.node_expand.proofs.TypedNodes.{single_type}
use Rattle.node_expand.proofs.ValidFacts.{IsExpandable, IsRooted, all_rooted}
use Rattle.node_expand.proofs.ValidLists.{Rising, places_differ, rising_apart, rising_append, rising_places, rising_to}
use Rattle.node_expand.proofs.ValidSizes.{some_edge, some_own}
use Rattle.node_expand.proofs.WellFormed.{defining}

-- ---- asserted edges

-- the asserted edges of an instance stand in order among its edges
abbrev pub IsRising : Callees → Name → Type 0
IsRising callees g = (start : ℕ) → Rising start (start + callees.size g) (callees.asserts g start)

instances_rise : (callees : Callees) (start : ℕ) (gs : List Name) → AllByRecursion (IsRising callees) gs
    → Rising start (start + size_of_all callees gs) (instance_asserts callees start gs)
instances_rise callees start [] all = omega arith
instances_rise callees start (g ∷ gs) all =
    rising_append start (start + callees.size g) (start + (callees.size g + size_of_all callees gs)) (callees.asserts g start) _ (all.0 start)
    (rising_to (start + callees.size g) (start + callees.size g + size_of_all callees gs) _ _ (omega arith) (instances_rise callees (start + callees.size g) gs all.1))

module _ (program : Program) (node : Node) (callees : Callees) where
  roots_rise : (next : ℕ) (item : Item) → IsRooted item → Rising next (inner_place program node next item) (root_asserts next item)
  roots_rise next (Assert at e) h = (omega arith, omega (arith, some_edge program node (Assert at e) h))
  roots_rise next (Equation at left e) h = omega arith

  item_rises : (next : ℕ) (item : Item) → IsRooted item
      → AllByRecursion (IsRising callees) (nodes_called (right_of item))
      → Rising next (next + item_size program node callees item) (item_asserts program node callees next item)
  item_rises next item h all =
      let inner = inner_place program node next item in
      rising_append next inner (next + item_size program node callees item) (root_asserts next item) _ (roots_rise next item h)
      (rising_to inner (inner + size_of_all callees (nodes_called (right_of item))) _ _ (omega arith) (instances_rise callees inner (nodes_called (right_of item)) all))

  items_rise : (next : ℕ) (items : List Item) → AllByRecursion IsRooted items
      → AllByRecursion (IsRising callees) (nodes_called_in items)
      → Rising next (next + items_size program node callees items) (items_asserts program node callees next items)
  items_rise next [] h all = omega arith
  items_rise next (item ∷ items) h all =
      let size = item_size program node callees item in
      rising_append next (next + size) (next + (size + items_size program node callees items)) (item_asserts program node callees next item) _
      (item_rises next item h.0 (all_left (IsRising callees) (nodes_called (right_of item)) (nodes_called_in items) all))
      (rising_to (next + size) (next + size + items_size program node callees items) _ _ (omega arith)
      (items_rise (next + size) items h.1 (all_right (IsRising callees) (nodes_called (right_of item)) (nodes_called_in items) all)))

module _ (program : Program) (whole : IsExpandable program) where
  rising_each : (depth : ℕ) (gs : List Name)
      → ((g : Name) → IsNested program depth g → IsRising (callees_within program depth) g)
      → AllByRecursion (IsNested program depth) gs → AllByRecursion (IsRising (callees_within program depth)) gs
  rising_each depth [] f all = tt
  rising_each depth (g ∷ gs) f all = (f g all.0, rising_each depth gs f all.1)

  pub asserts_rise : (depth : ℕ) (g : Name) → IsNested program depth g → IsRising (callees_within program depth) g
  asserts_rise zero g nested = absurd nested
  asserts_rise (suc depth) g nested = λ start.
      let node = nested.0 in
      let callees = callees_within program depth in
      let is = defining program node (whole.typed.nodes g node nested.1) in
      subst (λ (o : Option Node). Rising start (start + size_over program callees o) (asserts_over program callees o start)) (sym nested.1)
      (items_rise program node callees start node.items (all_rooted program whole (type_of_name program node) node.items is.items) (rising_each depth (nodes_called_in node.items) (asserts_rise depth) nested.2))

-- ---- outputs

names_counted : (f : Name → Option Ty) (left : List Spot) (ts : List Ty) → NamesHaveTypes f left ts → length left ≡ length ts
names_counted f left ts no_names = refl
names_counted f left ts (more_names {left = spots} {ts = us} h more) = ap suc (names_counted f spots us more)

module _ (program : Program) (node : Node) (callees : Callees) where
  -- an item has an edge for each variable that it defines
  left_fits : (item : Item) → IsTypedItem (type_of_name program node) program.node item
      → length (left_of item) ≤ item_size program node callees item
  left_fits (Assert at e) is = omega arith
  left_fits (Equation at left e) (typed_equation ts ns p) = step (has_edge program node e) refl
    where
      long : length (spot_names left) ≡ length left
      long = length-map left (λ (s : Spot). s.text)

      counted : length left ≡ length ts
      counted = names_counted (type_of_name program node) left ts ns

      step : (b : Bool) → has_edge program node e ≡ b
          → length (spot_names left) ≤ cond (has_edge program node e) 0 (length left) + own_count program node e + size_of_all callees (nodes_called e)
      step true is =
          let one : length ts ≡ 1 = ap length (single_type program node callees [] p is) in
          omega (arith, long, counted, one, some_own program node (tree_of e) is)
      step false is = let all = ap (λ b. cond b 0 (length left)) is in omega (arith, long, all)

  -- the roots of variables stand in order
  lefts_rise : (next : ℕ) (items : List Item) → AreDistinct (lefts items)
      → AllByRecursion (IsTypedItem (type_of_name program node) program.node) items
      → Rising next (next + items_size program node callees items) (map (place_of (item_places program node callees next items)) (lefts items))
  lefts_rise next [] d is = omega arith
  lefts_rise next (item ∷ items) d is =
      let size = item_size program node callees item in
      let rest = item_places program node callees (next + size) items in
      let table = zip (left_of item) (places_from next (left_of item)) ++ rest in
      let own : map (place_of table) (left_of item) ≡ places_from next (left_of item) = places_paired (left_of item) (places_from next (left_of item)) rest (distinct_left (left_of item) (lefts items) d) (places_length next (left_of item)) in
      let behind : map (place_of table) (lefts items) ≡ map (place_of rest) (lefts items) =
      map_same (place_of table) (place_of rest) (lefts items) (λ x i. places_behind (left_of item) (places_from next (left_of item)) rest x (λ j. apart (left_of item) (lefts items) x d j i)) in
      subst (Rising next (next + (size + items_size program node callees items))) (sym (map-append (place_of table) (left_of item) (lefts items) ∙ ap₂ (λ ps qs. ps ++ qs) own behind))
      (rising_append next (next + size) (next + (size + items_size program node callees items)) (places_from next (left_of item)) (map (place_of rest) (lefts items))
      (rising_to next (next + length (left_of item)) (next + size) _ (omega (arith, left_fits item is.0)) (rising_places next (left_of item)))
      (rising_to (next + size) (next + size + items_size program node callees items) _ _ (omega arith) (lefts_rise (next + size) items (distinct_right (left_of item) (lefts items) d) is.1)))

outputs_distinct : (ins outs locs : List Variable) → AreDistinct (names (ins ++ (outs ++ locs))) → AreDistinct (names outs)
outputs_distinct ins outs locs d =
    let split : names (ins ++ (outs ++ locs)) ≡ names ins ++ (names outs ++ names locs) = map-append (λ (v : Variable). v.name) ins (outs ++ locs) ∙ ap (λ l. names ins ++ l) (map-append (λ (v : Variable). v.name) outs locs) in
    distinct_left (names outs) (names locs) (distinct_right (names ins) (names outs ++ names locs) (subst AreDistinct split d))

pub outputs_differ : (program : Program) → IsExpandable program → (depth : ℕ) (g : Name) → IsNested program depth g
    → (start : ℕ) → AllPairs (λ (a b : EdgeId). a ≢ b) (map edge ((callees_within program depth).results g start))
outputs_differ program whole zero g nested start = absurd nested
outputs_differ program whole (suc depth) g nested start =
    let node = nested.0 in
    let callees = callees_within program depth in
    let typed = whole.typed.nodes g node nested.1 in
    let is = defining program node typed in
    let table = item_places program node callees start node.items in
    let rise = lefts_rise program node callees start node.items typed.once is.items in
    subst (λ (o : Option Node). AllPairs (λ (a b : EdgeId). a ≢ b) (map edge (results_over program callees o start))) (sym nested.1)
    (places_differ (place_of table) (names node.outputs) (outputs_distinct node.inputs node.outputs node.locals typed.distinct)
    (λ x y i j. rising_apart (place_of table) start (start + items_size program node callees node.items) (lefts node.items) rise x y
    (all_in (λ z. In z (lefts node.items)) (names node.outputs) x is.outputs i) (all_in (λ z. In z (lefts node.items)) (names node.outputs) y is.outputs j)))
