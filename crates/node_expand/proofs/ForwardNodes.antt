-- What a network's streams say of the source: items, and nodes under nodes.
use Rattle.std.proofs.Common.{Bool, List, Option, Some, [], ap, ap₂, arith, cond, false, length, map, refl, subst, suc, sym, true, zero, ℕ, ◌++◌, ◌+◌, ◌∙◌, ◌∷◌, ◌≡◌}
use Rattle.std.proofs.lemmas.List.{length-map, map-append}
use Rattle.std.specs.List.{AllByRecursion}
use Rattle.lus_syntax.specs.declared.ast.Expr.{Expr}
use Rattle.lus_syntax.specs.declared.ast.Item.{Item}
use Rattle.lus_syntax.specs.declared.ast.Item.TheVariants.{Assert, Equation}
use Rattle.lus_syntax.specs.declared.ast.Spot.{Spot}
use Rattle.lus_types.specs.Calls.{In}
use Rattle.lus_types.specs.Names.{Name, left_of, lefts, spot_names}
use Rattle.lus_types.specs.ProgramTypes.{HasTypes, IsTypedItem, NamesHaveTypes, more_names, no_names, typed_assertion, typed_equation}
use Rattle.lus_types.specs.Programs.{Node, Program, Variable, names, type_of_name, variables}
use Rattle.op_network.specs.declared.value.Ty.{Ty}
use Rattle.node_expand.specs.Counts.{has_edge, id_count, inner_place, item_size, nodes_called, nodes_called_in, right_of}
use Rattle.node_expand.specs.Fragments.{Call, Callees, Places, nodes_of, place_of}
use Rattle.node_expand.specs.Instances.{asserts_over, edges_over, id_edges, instance_asserts, instance_edges, item_edges, item_fragment, item_places, items_asserts, items_edges, next_assertion, places_from, places_over, results_over, root_asserts, roots_of}
use Rattle.node_expand.specs.Nesting.{IsNested}
use Rattle.node_expand.specs.Network.{callees_within, inputs_of}
use Rattle.node_expand.specs.NodeRuns.{AllHold, HasStreams, Holds, Runs, Streams, holds_assertion, holds_equation, holds_more, holds_none, runs}
use Rattle.node_expand.specs.Streams.{HaveLength, Stream}
use Rattle.node_expand.proofs.Counted.{calls_counted}
use Rattle.node_expand.proofs.Forward.{CallsRun, call_checks, expr_fits, streams_at}
use Rattle.node_expand.proofs.Holding.{Columns, Hold, HoldGates, gates_at, gates_of_own, hold_at, hold_left, hold_right, ids_equal}
use Rattle.node_expand.proofs.Lists.{all_in, all_left, all_right, map_same, map_twice}
use Rattle.node_expand.proofs.Places.{apart, distinct_left, distinct_right, places_behind, places_map, places_paired}
use Rattle.node_expand.proofs.Sizes.{HasSize, Placed, ids_of, ids_of_length, inners_of, item_length, own_value, owns_of, owns_of_length, placed, sized, sized_all}
use Rattle.node_expand.proofs.WellFormed.{IsDefining, IsWellFormed}
use Rattle.op_network.specs.declared.value.Ty.TheVariants as type

-- as many names as types
named_length : {name_type : Name → Option Ty} {left : List Spot} {ts : List Ty} → NamesHaveTypes name_type left ts → length left ≡ length ts
named_length no_names = refl
named_length (more_names h more) = ap suc (named_length more)

module _ (program : Program) (n : ℕ) (ins : List Stream) (col : Columns) (long : (k : ℕ) → length (col k) ≡ n) where
  -- where the edges of an instance of the node hold, the node runs with their streams
  pub record Ready (callees : Callees) (g : Name) : Type 0 where
    pub size : HasSize callees g
    pub runs : (args : List ℕ) (prefix : Name) (marked : Bool) (start : ℕ) → length args ≡ length (inputs_of (program.node g))
        → Hold program.width n ins col start (callees.edges g args prefix marked start)
        → Runs program n g (map col args) (map col (callees.results g start)) (map col (callees.asserts g start))

  instances_run : (callees : Callees) (x : Name) (marked : Bool) (j start : ℕ) (calls : List Call)
      → AllByRecursion (Ready callees) (nodes_of calls)
      → Hold program.width n ins col start (instance_edges callees x marked j start calls)
      → CallsRun program n ins col callees start calls
  instances_run callees x marked j start [] all hold = tt
  instances_run callees x marked j start (c ∷ calls) all hold = (
    (λ arity. all.0.runs c.args _ marked start arity (hold_left program.width n ins col start (callees.edges c.node c.args _ marked start) _ hold)),
    instances_run callees x marked (suc j) (start + callees.size c.node) calls all.1
        (hold_at program.width n ins col _ (ap (λ k. start + k) (all.0.size.each c.args _ marked start)) (hold_right program.width n ins col start (callees.edges c.node c.args _ marked start) _ hold)),
  )

  module _ (node : Node) (callees : Callees) (table : Places) where
    -- the roots have the streams of the right side's values
    roots_equal : (prefix : Name) (marked : Bool) (next : ℕ) (roots : List Variable) (e : Expr) (ids : ℕ) (own : Bool)
        → has_edge program node e ≡ own → ids ≡ cond own 0 (length roots) → (values : List ℕ)
        → (own ≡ true → values ≡ (next + ids) ∷ []) → length values ≡ length roots
        → Hold program.width n ins col next (cond own [] (id_edges prefix marked roots values)) → map col (places_from next roots) ≡ map col values
    roots_equal prefix marked next [] e ids true is count values value long hold = let f = value refl in absurd (omega (arith, long, ap (λ (l : List ℕ). length l) f))
    roots_equal prefix marked next (r ∷ []) e ids true is count values value long hold = ap (λ k. col k ∷ []) (omega (arith, count))
        ∙ ap (map col) (sym (value refl))
    roots_equal prefix marked next (r ∷ q ∷ roots) e ids true is count values value long hold = let f = value refl in absurd (omega (arith, long, ap (λ (l : List ℕ). length l) f))
    roots_equal prefix marked next roots e ids false is count values value long hold = ids_equal program.width n ins col prefix marked next roots values long hold

    item_calls : (prefix : Name) (asserted : Bool) (next k : ℕ) (item : Item)
        → AllByRecursion (Ready callees) (nodes_called (right_of item))
        → Hold program.width n ins col (inner_place program node next item) (inners_of program node callees table prefix asserted next k item)
        → CallsRun program n ins col callees (inner_place program node next item) (item_fragment program node callees table next item).calls
    item_calls prefix asserted next k item all hold =
        instances_run callees _ _ 1 (inner_place program node next item) (item_fragment program node callees table next item).calls
        (subst (AllByRecursion (Ready callees)) (sym (calls_counted program node callees table (right_of item) _ _)) all) hold

    -- the right side has the streams of the roots
    record Rooted (next k : ℕ) (item : Item) : Type 0 where
      has : HasStreams program n node (streams_at program n ins col node callees table) (right_of item) (map col (places_from next (roots_of program node k item))) (map col (instance_asserts callees (inner_place program node next item) (nodes_called (right_of item))))

    item_rooted : (prefix : Name) (asserted : Bool) (next k : ℕ) (item : Item) (ts : List Ty)
        → HasTypes (type_of_name program node) program.node (right_of item) ts
        → length ts ≡ length (roots_of program node k item)
        → (id_count program node item ≡ cond (has_edge program node (right_of item)) 0 (length (roots_of program node k item)))
        → AllByRecursion (Ready callees) (nodes_called (right_of item))
        → Hold program.width n ins col next (item_edges program node callees table prefix asserted next k item)
        → Rooted next k item
    item_rooted prefix asserted next k item ts is size counted all hold =
        let m = item_fragment program node callees table next item in
        let behind = hold_right program.width n ins col next (ids_of program node callees table prefix asserted next k item) _ hold in
        let ids = ids_of_length program node callees table prefix asserted next k item in
        let owns = owns_of_length program node callees table prefix asserted next k item in
        let gates : HoldGates program.width n ins col (next + id_count program node item) m.own =
        gates_at program.width n ins col m.own (ap (λ c. next + c) ids) (gates_of_own program.width n ins col _ _ _ _ m.own (hold_left program.width n ins col _ (owns_of program node callees table prefix asserted next k item) _ behind)) in
        let inner : Hold program.width n ins col (inner_place program node next item) (inners_of program node callees table prefix asserted next k item) =
        hold_at program.width n ins col _ (ap₂ (λ c d. next + c + d) ids owns) (hold_right program.width n ins col _ (owns_of program node callees table prefix asserted next k item) _ behind) in
        let f = expr_fits program n ins col node callees table is (next + id_count program node item) (inner_place program node next item) (item_calls prefix asserted next k item all inner) gates in
        let same = roots_equal prefix _ next (roots_of program node k item) (right_of item) (id_count program node item) (has_edge program node (right_of item)) refl counted m.values (λ h. own_value program node callees table (right_of item) h _ _) (f.1 ∙ size) (hold_left program.width n ins col next (ids_of program node callees table prefix asserted next k item) _ hold) in
        record {
          has = subst (λ c. HasStreams program n node (streams_at program n ins col node callees table) (right_of item) (map col (places_from next (roots_of program node k item))) (map col (instance_asserts callees (inner_place program node next item) c))) (calls_counted program node callees table (right_of item) _ _)
              (subst (λ s. HasStreams program n node (streams_at program n ins col node callees table) (right_of item) s (call_checks program n ins col callees (inner_place program node next item) m.calls)) (sym same) f.0);
        }

    item_holds : (prefix : Name) (asserted : Bool) (next k : ℕ) (item : Item)
        → IsTypedItem (type_of_name program node) program.node item
        → (map (place_of table) (left_of item) ≡ places_from next (left_of item))
        → AllByRecursion (Ready callees) (nodes_called (right_of item))
        → Hold program.width n ins col next (item_edges program node callees table prefix asserted next k item)
        → Holds program n node (streams_at program n ins col node callees table) item (map col (root_asserts next item ++ instance_asserts callees (inner_place program node next item) (nodes_called (right_of item))))
    item_holds prefix asserted next k _ (typed_equation {at = at} {left = left} {e = e} ts named is) placed all hold =
        let count : length (roots_of program node k (Equation at left e)) ≡ length left = length-map left _ in
        let r = item_rooted prefix asserted next k (Equation at left e) ts is (sym (named_length named) ∙ sym count) (ap (λ m. cond (has_edge program node e) 0 m) (sym count)) all hold in
        holds_equation (subst (λ s. HasStreams program n node (streams_at program n ins col node callees table) e s (map col (instance_asserts callees (inner_place program node next (Equation at left e)) (nodes_called e))))
        (ap (map col) (places_map _ next left ∙ sym (places_map _ next left) ∙ sym placed) ∙ sym (map_twice col (place_of table) (spot_names left))) r.has)
    item_holds prefix asserted next k _ (typed_assertion {at = at} {e = e} is) placed all hold =
        holds_assertion (item_rooted prefix asserted next k (Assert at e) (type.Truth ∷ []) is refl refl all hold).has

    pub items_hold : (prefix : Name) (asserted : Bool) (next k : ℕ) (items : List Item)
        → AllByRecursion (IsTypedItem (type_of_name program node) program.node) items
        → Placed program node callees table next items → AllByRecursion (Ready callees) (nodes_called_in items)
        → AllByRecursion (HasSize callees) (nodes_called_in items)
        → Hold program.width n ins col next (items_edges program node callees table prefix asserted next k items)
        → AllHold program n node (streams_at program n ins col node callees table) items (map col (items_asserts program node callees next items))
    items_hold prefix asserted next k [] is placed all sizes hold = holds_none
    items_hold prefix asserted next k (item ∷ items) is placed all sizes hold =
        subst (AllHold program n node (streams_at program n ins col node callees table) (item ∷ items)) (sym (map-append col (root_asserts next item ++ instance_asserts callees (inner_place program node next item) (nodes_called (right_of item))) _))
        (holds_more
        (item_holds prefix asserted next k item is.0 placed.0 (all_left (Ready callees) (nodes_called (right_of item)) _ all) (hold_left program.width n ins col next (item_edges program node callees table prefix asserted next k item) _ hold))
        (items_hold prefix asserted (next + item_size program node callees item) (next_assertion k item) items is.1 placed.1 (all_right (Ready callees) (nodes_called (right_of item)) _ all) (all_right (HasSize callees) (nodes_called (right_of item)) _ sizes)
        (hold_at program.width n ins col _ (ap (λ c. next + c) (item_length program node callees table prefix asserted next k item (all_left (HasSize callees) (nodes_called (right_of item)) _ sizes))) (hold_right program.width n ins col next (item_edges program node callees table prefix asserted next k item) _ hold))))

  -- a node over nodes that are ready
  module _ (whole : IsWellFormed program) where
    all_long : (f : Name → Stream) → ((x : Name) → length (f x) ≡ n) → (xs : List Name) → HaveLength n (map f xs)
    all_long f h [] = tt
    all_long f h (x ∷ xs) = (h x, all_long f h xs)

    module _ (callees : Callees) (node : Node) (args : List ℕ) (start : ℕ) where
      abbrev instance_places : Places
      instance_places = places_over program node callees args start

      abbrev pub instance_streams : Streams
      instance_streams = streams_at program n ins col node callees instance_places

      abbrev result_streams : List Stream
      result_streams = map col (results_over program callees (Some node) start)

      abbrev assert_streams : List Stream
      assert_streams = map col (asserts_over program callees (Some node) start)

      -- the edges of an instance's variables have streams with which the node's items hold
      pub record InstanceHolds : Type 0 where
        pub inputs : map instance_streams (names node.inputs) ≡ map col args
        pub outputs : map instance_streams (names node.outputs) ≡ result_streams
        pub lengths : HaveLength n (map instance_streams (names (variables node)))
        pub items : AllHold program n node instance_streams node.items assert_streams

      pub instance_holds : IsDefining program node
          → AllByRecursion (Ready callees) (nodes_called_in node.items)
          → AllByRecursion (HasSize callees) (nodes_called_in node.items)
          → (prefix : Name) (marked : Bool) → length args ≡ length node.inputs
          → Hold program.width n ins col start (edges_over program callees (Some node) args prefix marked start)
          → InstanceHolds
      instance_holds is ready sizes prefix marked arity hold =
          let xs = names node.inputs in
          let rest = item_places program node callees start node.items in
          let behind = λ (x : Name) (i : In x (lefts node.items)).
          places_behind xs args rest x (λ j. apart xs (lefts node.items) x is.once j i) in
          let paired = places_paired xs args rest (distinct_left xs (lefts node.items) is.once) in
          let once = distinct_right xs (lefts node.items) is.once in
          record {
            inputs = map_twice col (place_of instance_places) xs ∙ ap (map col) (paired (arity ∙ sym (length-map node.inputs _)));
            outputs = map_twice col (place_of instance_places) (names node.outputs)
                ∙ ap (map col) (map_same _ _ (names node.outputs) (λ x i. behind x (all_in _ (names node.outputs) x is.outputs i)));
            lengths = all_long _ (λ x. long (place_of instance_places x)) (names (variables node));
            items = items_hold node callees instance_places prefix marked start 1 node.items is.items
                (placed program node callees instance_places start node.items once behind) ready sizes hold;
          }

      -- so the node runs
      node_runs : (g : Name) → program.node g ≡ Some node → InstanceHolds
          → Runs program n g (map col args) result_streams assert_streams
      node_runs g found r =
          subst (λ i. Runs program n g i result_streams assert_streams) r.inputs
          (subst (λ o. Runs program n g (map instance_streams (names node.inputs)) o assert_streams) r.outputs
          (runs instance_streams found r.lengths r.items))

    pub ready_each : (depth : ℕ) (gs : List Name)
        → ((g : Name) → IsNested program depth g → Ready (callees_within program depth) g)
        → AllByRecursion (IsNested program depth) gs → AllByRecursion (Ready (callees_within program depth)) gs
    ready_each depth [] f all = tt
    ready_each depth (g ∷ gs) f all = (f g all.0, ready_each depth gs f all.1)

    pub ready : (depth : ℕ) (g : Name) → IsNested program depth g → Ready (callees_within program depth) g
    ready zero g nested = absurd nested
    ready (suc depth) g nested = record {
      size = sized program (suc depth) g nested;
      runs = λ args prefix marked start.
          subst (λ (o : Option Node). length args ≡ length (inputs_of o) → Hold program.width n ins col start (edges_over program (callees_within program depth) o args prefix marked start)
          → Runs program n g (map col args) (map col (results_over program (callees_within program depth) o start)) (map col (asserts_over program (callees_within program depth) o start))) (sym nested.1)
          (λ arity hold. node_runs (callees_within program depth) nested.0 args start g nested.1
          (instance_holds (callees_within program depth) nested.0 args start (whole.nodes g nested.0 nested.1)
          (ready_each depth (nodes_called_in nested.0.items) (ready depth) nested.2)
          (sized_all program depth (nodes_called_in nested.0.items) nested.2) prefix marked arity hold));
    }
