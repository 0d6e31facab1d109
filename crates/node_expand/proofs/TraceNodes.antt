-- What the source's streams say of a network: the edges of items and of instances have streams.
use Rattle.std.proofs.Common.{Bool, List, Option, Some, [], ap, ap₂, arith, cond, false, inl, inr, length, length-append, map, refl, subst, suc, sym, true, unwrap_or, zero, zip, ℕ, ◌++◌, ◌+◌, ◌||◌, ◌∙◌, ◌∷◌, ◌≡◌, ◌⊎◌}
use Rattle.std.proofs.lemmas.List.{length-map, map-append}
use Rattle.std.specs.List.{AllByRecursion}
use Rattle.lus_syntax.specs.declared.ast.Item.{Item}
use Rattle.lus_syntax.specs.declared.ast.Item.TheVariants.{Assert, Equation}
use Rattle.lus_types.proofs.Members.{in_append}
use Rattle.lus_types.specs.Calls.{In, here, there}
use Rattle.lus_types.specs.Names.{Name, entry_of, left_of, lefts, spot_names}
use Rattle.lus_types.specs.Programs.{Node, Program, Variable, names, type_in, variables}
use Rattle.op_network.specs.declared.value.Ty.{Ty}
use Rattle.node_expand.specs.Counts.{has_edge, id_count, inner_place, item_size, items_size, nodes_called, nodes_called_in, right_of}
use Rattle.node_expand.specs.Fragments.{Call, Callees, Places, nodes_of, place_of, size_of_all}
use Rattle.node_expand.specs.Instances.{asserts_over, edges_over, id_edges, instance_asserts, instance_edges, instance_prefix, is_assertion, item_edges, item_fragment, item_places, items_asserts, items_edges, next_assertion, places_from, places_over, results_over, root_asserts, roots_of, size_over}
use Rattle.node_expand.specs.Nesting.{IsNested}
use Rattle.node_expand.specs.Network.{callees_within}
use Rattle.node_expand.specs.NodeRuns.{AllHold, Holds, Runs, Streams, holds_assertion, holds_equation, holds_more, holds_none, runs}
use Rattle.node_expand.specs.Streams.{HaveLength, Stream}
use Rattle.node_expand.proofs.Counted.{calls_counted}
use Rattle.node_expand.proofs.Holding.{Columns, Hold, equal_ids, hold_append, hold_at, own_of_gates}
use Rattle.node_expand.proofs.Lists.{all_append, all_in, all_left, all_right}
use Rattle.node_expand.proofs.Places.{Compared, compared, other_name, same_name, variable_in}
use Rattle.node_expand.proofs.Sizes.{HasSize, ids_of, ids_of_length, item_length, owns_of, owns_of_length, sized_all}
use Rattle.node_expand.proofs.Traces.{At, Calling, Matches, Results, Trace, World, at_left, at_place, at_right, checks_of, runners, trace}
use Rattle.node_expand.proofs.WellFormed.{IsDefining, IsWellFormed}

-- edges one behind the other
at_places : {A : Type 0} (col : Columns) (next : ℕ) (xs : List A) (streams : List Stream) → length xs ≡ length streams
    → At col next streams → map col (places_from next xs) ≡ streams
at_places col next [] [] e at = refl
at_places col next [] (s ∷ streams) e at = absurd (omega (arith, e))
at_places col next (x ∷ xs) [] e at = absurd (omega (arith, e))
at_places col next (x ∷ xs) (s ∷ streams) e at = ap₂ (λ a l. a ∷ l) at.0 (at_places col (suc next) xs streams (omega (arith, e)) at.1)

not_head : {A : Type 0} (x y : A) (xs : List A) → (x ≡ y → ⊥) → (In x xs → ⊥) → In x (y ∷ xs) → ⊥
not_head x y xs d f here = d refl
not_head x y xs d f (there i) = f i

-- a name with a stream stands where its edge has that stream, or behind
pub found_or_behind : {A : Type 0} (col : ℕ → A) (of : Name → A) (xs : List Name) (args : List ℕ) (rest : Places)
    → map col args ≡ map of xs → (x : Name)
    → (col (place_of (zip xs args ++ rest) x) ≡ of x) ⊎ ((In x xs → ⊥) × (place_of (zip xs args ++ rest) x ≡ place_of rest x))
found_or_behind col of [] args rest e x = inr ((λ i. elim i [ ]), refl)
found_or_behind col of (y ∷ xs) [] rest e x = absurd (cc e)
found_or_behind {A} col of (y ∷ xs) (a ∷ args) rest e x = step (compared x y) (found_or_behind col of xs args rest (cc e) x)
  where
    step : Compared x y
        → (col (place_of (zip xs args ++ rest) x) ≡ of x) ⊎ ((In x xs → ⊥) × (place_of (zip xs args ++ rest) x ≡ place_of rest x))
        → (col (place_of ((y, a) ∷ (zip xs args ++ rest)) x) ≡ of x) ⊎ ((In x (y ∷ xs) → ⊥) × (place_of ((y, a) ∷ (zip xs args ++ rest)) x ≡ place_of rest x))
    step (same_name is h) later =
        let head : col a ≡ of y = cc e in
        inl (ap (λ b. col (unwrap_or (cond b (Some a) (entry_of (zip xs args ++ rest) x)) 0)) h ∙ head ∙ ap of (sym is))
    step (other_name d h) (inl found) = inl (ap (λ b. col (unwrap_or (cond b (Some a) (entry_of (zip xs args ++ rest) x)) 0)) h ∙ found)
    step (other_name d h) (inr behind) = inr (not_head x y xs d behind.0, ap (λ b. unwrap_or (cond b (Some a) (entry_of (zip xs args ++ rest) x)) 0) h ∙ behind.1)

long_in : (n : ℕ) (of : Streams) (xs : List Name) (x : Name) → HaveLength n (map of xs) → In x xs → length (of x) ≡ n
long_in n of [] x long i = elim i [ ]
long_in n of (y ∷ xs) x long here = long.0
long_in n of (y ∷ xs) x long (there i) = long_in n of xs x long.1 i

module _ (program : Program) (n : ℕ) where
  -- the streams of the edges of an instance that runs so
  pub record Traced (callees : Callees) (g : Name) (ins outs checks : List Stream) : Type 0 where
    pub body : List Stream
    pub count : length body ≡ callees.size g
    pub long : HaveLength n body
    pub results : (col : Columns) (start : ℕ) → At col start body → map col (callees.results g start) ≡ outs
    pub asserts : (col : Columns) (start : ℕ) → At col start body → map col (callees.asserts g start) ≡ checks
    pub holds : (col : Columns) (inputs : List Stream) (args : List ℕ) (prefix : Name) (marked : Bool) (start : ℕ)
        → At col start body → map col args ≡ ins
        → Hold program.width n inputs col start (callees.edges g args prefix marked start)

  abbrev EachTraced : Callees → List (Calling program n) → Type 0
  EachTraced callees [] = Unit {0}
  EachTraced callees (r ∷ calls) = Traced callees r.node r.ins r.outs r.checks × EachTraced callees calls

  abbrev bodies : (callees : Callees) (calls : List (Calling program n)) → EachTraced callees calls → List Stream
  bodies callees [] all = []
  bodies callees (r ∷ calls) all = all.0.body ++ bodies callees calls all.1

  bodies_count : (callees : Callees) (calls : List (Calling program n)) (all : EachTraced callees calls)
      → length (bodies callees calls all) ≡ size_of_all callees (runners program n calls)
  bodies_count callees [] all = refl
  bodies_count callees (r ∷ calls) all = length-append all.0.body _ ∙ ap₂ (λ i j. i + j) all.0.count (bodies_count callees calls all.1)

  bodies_long : (callees : Callees) (calls : List (Calling program n)) (all : EachTraced callees calls)
      → HaveLength n (bodies callees calls all)
  bodies_long callees [] all = tt
  bodies_long callees (r ∷ calls) all = all_append _ all.0.body _ all.0.long (bodies_long callees calls all.1)

  -- the next instance
  next_body : (callees : Callees) (r : Calling program n) (calls : List (Calling program n)) (all : EachTraced callees (r ∷ calls)) (col : Columns) (start : ℕ)
      → At col start (bodies callees (r ∷ calls) all)
      → At col (start + callees.size r.node) (bodies callees calls all.1)
  next_body callees r calls all col start at = at_place col _ (ap (λ k. start + k) all.0.count) (at_right col start all.0.body _ at)

  bodies_results : (callees : Callees) (calls : List (Calling program n)) (all : EachTraced callees calls) (col : Columns) (start : ℕ)
      → At col start (bodies callees calls all) → Results program n callees col start calls
  bodies_results callees [] all col start at = tt
  bodies_results callees (r ∷ calls) all col start at = (all.0.results col start (at_left col start all.0.body _ at), bodies_results callees calls all.1 col (start + callees.size r.node) (next_body callees r calls all col start at))

  bodies_asserts : (callees : Callees) (calls : List (Calling program n)) (all : EachTraced callees calls) (col : Columns) (start : ℕ)
      → At col start (bodies callees calls all)
      → map col (instance_asserts callees start (runners program n calls)) ≡ checks_of program n calls
  bodies_asserts callees [] all col start at = refl
  bodies_asserts callees (r ∷ calls) all col start at =
      map-append col (callees.asserts r.node start) _
      ∙ ap₂ (λ i j. i ++ j) (all.0.asserts col start (at_left col start all.0.body _ at)) (bodies_asserts callees calls all.1 col (start + callees.size r.node) (next_body callees r calls all col start at))

  bodies_hold : (callees : Callees) (more : List (Calling program n)) (all : EachTraced callees more) (col : Columns) (inputs : List Stream) (x : Name) (marked : Bool) (j start : ℕ) (calls : List Call)
      → AllByRecursion (HasSize callees) (nodes_of calls) → Matches program n col calls more
      → At col start (bodies callees more all)
      → Hold program.width n inputs col start (instance_edges callees x marked j start calls)
  bodies_hold callees [] all col inputs x marked j start [] sizes match at = tt
  bodies_hold callees [] all col inputs x marked j start (c ∷ calls) sizes match at = absurd match
  bodies_hold callees (r ∷ more) all col inputs x marked j start [] sizes match at = absurd match
  bodies_hold callees (r ∷ more) all col inputs x marked j start (c ∷ calls) sizes match at =
      hold_append program.width n inputs col start (callees.edges c.node c.args (instance_prefix x c.node j) marked start) _
      (subst (λ g. Hold program.width n inputs col start (callees.edges g c.args (instance_prefix x c.node j) marked start)) (sym match.0.0) (all.0.holds col inputs c.args (instance_prefix x c.node j) marked start (at_left col start all.0.body _ at) match.0.1))
      (hold_at program.width n inputs col _ (ap (λ k. start + k) (sym (sizes.0.each c.args (instance_prefix x c.node j) marked start)))
      (bodies_hold callees more all.1 col inputs x marked (suc j) (start + callees.size c.node) calls sizes.1 match.1
      (at_place col _ (ap (λ g. start + callees.size g) (sym match.0.0)) (next_body callees r more all col start at))))

  module _ (node : Node) (of : Streams) (long : (x : Name) (ty : Ty) → type_in node x ≡ Some ty → length (of x) ≡ n) (callees : Callees) where
    -- the streams of an item's edges
    record ItemTrace (item : Item) (checks : List Stream) : Type 0 where
      body : List Stream
      count : length body ≡ item_size program node callees item
      long_body : HaveLength n body
      rooted : (col : Columns) (next : ℕ) → At col next body → map col (places_from next (left_of item)) ≡ map of (left_of item)
      asserts : (col : Columns) (next : ℕ) → At col next body
          → map col (root_asserts next item ++ instance_asserts callees (inner_place program node next item) (nodes_called (right_of item))) ≡ checks
      holds : (w : World program n node of long callees) (prefix : Name) (marked : Bool) (next k : ℕ)
          → At w.col next body
          → Hold program.width n w.ins w.col next (item_edges program node callees w.table prefix marked next k item)

    -- an item over the streams of its right side
    module _ (item : Item) (streams checks : List Stream) (t : Trace program n node of long callees (right_of item) streams checks) (all : EachTraced callees t.calls) (sizes_of : AllByRecursion (HasSize callees) (nodes_called (right_of item))) (ids : id_count program node item ≡ cond (has_edge program node (right_of item)) 0 (length streams)) where
      abbrev item_body : List Stream
      item_body = cond (has_edge program node (right_of item)) [] streams ++ (t.own ++ bodies callees t.calls all)

      ids_long : (b : Bool) → length (cond b [] streams) ≡ cond b 0 (length streams)
      ids_long true = refl
      ids_long false = refl

      ids_are_long : (b : Bool) → HaveLength n (cond b [] streams)
      ids_are_long true = tt
      ids_are_long false = t.long_values

      body_count : length item_body ≡ item_size program node callees item
      body_count =
          length-append (cond (has_edge program node (right_of item)) [] streams) _
          ∙ ap₂ (λ i j. i + j) (ids_long (has_edge program node (right_of item)) ∙ sym ids) (length-append t.own _ ∙ ap₂ (λ i j. i + j) t.count (bodies_count callees t.calls all ∙ ap (size_of_all callees) t.called_by))
          ∙ omega arith

      body_long : HaveLength n item_body
      body_long = all_append _ (cond (has_edge program node (right_of item)) [] streams) _ (ids_are_long (has_edge program node (right_of item))) (all_append _ t.own _ t.long_own (bodies_long callees t.calls all))

      ids_at : (col : Columns) (next : ℕ) → At col next item_body → At col next (cond (has_edge program node (right_of item)) [] streams)
      ids_at col next at = at_left col next (cond (has_edge program node (right_of item)) [] streams) _ at

      rest_at : (col : Columns) (next : ℕ) → At col next item_body
          → At col (next + id_count program node item) (t.own ++ bodies callees t.calls all)
      rest_at col next at = at_place col _ (ap (λ k. next + k) (ids_long (has_edge program node (right_of item)) ∙ sym ids)) (at_right col next (cond (has_edge program node (right_of item)) [] streams) _ at)

      own_at : (col : Columns) (next : ℕ) → At col next item_body → At col (next + id_count program node item) t.own
      own_at col next at = at_left col _ t.own _ (rest_at col next at)

      inner_at : (col : Columns) (next : ℕ) → At col next item_body
          → At col (inner_place program node next item) (bodies callees t.calls all)
      inner_at col next at = at_place col _ (ap (λ k. next + id_count program node item + k) t.count) (at_right col _ t.own _ (rest_at col next at))

      -- the roots have the streams of the right side
      root_streams : {A : Type 0} (col : Columns) (next : ℕ) (xs : List A) → length xs ≡ length streams
          → At col next item_body → map col (places_from next xs) ≡ streams
      root_streams {A} col next xs count at = step (has_edge program node (right_of item)) refl (ids_at col next at)
        where
          one : (s : Stream) (own : List Stream) (ys : List A) → length ys ≡ 1 → (next' : ℕ) → next' ≡ next
              → At col next' (s ∷ own) → map col (places_from next ys) ≡ s ∷ []
          one s own [] e next' is at = absurd (omega (arith, e))
          one s own (y ∷ []) e next' is at = ap (λ v. v ∷ []) (ap col (sym is) ∙ at.0)
          one s own (y ∷ z ∷ ys) e next' is at = absurd (omega (arith, e))

          step : (b : Bool) → has_edge program node (right_of item) ≡ b → At col next (cond b [] streams)
              → map col (places_from next xs) ≡ streams
          step true own ids' =
              let h = t.head own in
              let zero_ids : id_count program node item ≡ 0 = ids ∙ ap (λ b. cond b 0 (length streams)) own in
              one h.0 h.1 xs (count ∙ ap (λ (l : List Stream). length l) h.3) (next + id_count program node item) (omega (arith, zero_ids)) (subst (At col (next + id_count program node item)) h.2 (own_at col next at))
              ∙ sym h.3
          step false own ids' = at_places col next xs streams count ids'

      inner_asserts : (col : Columns) (next : ℕ) → At col next item_body
          → map col (instance_asserts callees (inner_place program node next item) (nodes_called (right_of item))) ≡ checks
      inner_asserts col next at = ap (λ l. map col (instance_asserts callees (inner_place program node next item) l)) (sym t.called_by)
          ∙ bodies_asserts callees t.calls all col _ (inner_at col next at) ∙ sym t.checked

      ids_hold : (col : Columns) (inputs : List Stream) (prefix : Name) (marked : Bool) (next : ℕ) (roots : List Variable) (values : List ℕ) (b : Bool)
          → map col (places_from next roots) ≡ map col values
          → Hold program.width n inputs col next (cond b [] (id_edges prefix marked roots values))
      ids_hold col inputs prefix marked next roots values true e = tt
      ids_hold col inputs prefix marked next roots values false e = equal_ids program.width n inputs col prefix marked next roots values e

      body_holds : (w : World program n node of long callees) (prefix : Name) (marked : Bool) (next k : ℕ)
          → length (roots_of program node k item) ≡ length streams → At w.col next item_body
          → Hold program.width n w.ins w.col next (item_edges program node callees w.table prefix marked next k item)
      body_holds w prefix marked next k count at =
          let m = item_fragment program node callees w.table next item in
          let good = t.good w (next + id_count program node item) (inner_place program node next item) (own_at w.col next at) (bodies_results callees t.calls all w.col _ (inner_at w.col next at)) in
          let counted : nodes_of m.calls ≡ nodes_called (right_of item) = calls_counted program node callees w.table (right_of item) _ _ in
          hold_append program.width n w.ins w.col next (ids_of program node callees w.table prefix marked next k item) _
          (ids_hold w.col w.ins prefix (marked || is_assertion item) next (roots_of program node k item) m.values (has_edge program node (right_of item)) (root_streams w.col next (roots_of program node k item) count at ∙ sym good.1))
          (hold_at program.width n w.ins w.col _ (ap (λ c. next + c) (sym (ids_of_length program node callees w.table prefix marked next k item)))
          (hold_append program.width n w.ins w.col (next + id_count program node item) (owns_of program node callees w.table prefix marked next k item) _
          (own_of_gates program.width n w.ins w.col _ _ _ _ m.own good.0)
          (hold_at program.width n w.ins w.col _ (ap (λ c. next + id_count program node item + c) (sym (owns_of_length program node callees w.table prefix marked next k item)))
          (bodies_hold callees t.calls all w.col w.ins _ _ 1 (inner_place program node next item) m.calls (subst (AllByRecursion (HasSize callees)) (sym counted) sizes_of) good.2 (inner_at w.col next at)))))

    item_trace : {item : Item} {checks : List Stream} → Holds program n node of item checks
        → AllByRecursion (HasSize callees) (nodes_called (right_of item))
        → ((streams checks : List Stream) (t : Trace program n node of long callees (right_of item) streams checks) → EachTraced callees t.calls)
        → ItemTrace item checks
    item_trace (holds_equation {at = place} {left = left} {e = e} {checks = checks} has) sizes_of under =
        let item : Item = Equation place left e in
        let t = trace program n node of long callees has in
        let all = under (map of (spot_names left)) checks t in
        let count : length left ≡ length (map of (spot_names left)) = sym (length-map (spot_names left) _ ∙ length-map left _) in
        let ids : id_count program node item ≡ cond (has_edge program node e) 0 (length (map of (spot_names left))) = ap (λ m. cond (has_edge program node e) 0 m) count in
        record {
          body = item_body item (map of (spot_names left)) checks t all sizes_of ids;
          count = body_count item (map of (spot_names left)) checks t all sizes_of ids;
          long_body = body_long item (map of (spot_names left)) checks t all sizes_of ids;
          rooted = λ col next at. root_streams item (map of (spot_names left)) checks t all sizes_of ids col next (spot_names left) (sym (length-map (spot_names left) _)) at;
          asserts = λ col next at. inner_asserts item (map of (spot_names left)) checks t all sizes_of ids col next at;
          holds = λ w prefix marked next k at. body_holds item (map of (spot_names left)) checks t all sizes_of ids w prefix marked next k (length-map left _ ∙ count) at;
        }
    item_trace (holds_assertion {at = place} {e = e} {s = s} {checks = checks} has) sizes_of under =
        let item : Item = Assert place e in
        let t = trace program n node of long callees has in
        let all = under (s ∷ []) checks t in
        record {
          body = item_body item (s ∷ []) checks t all sizes_of refl;
          count = body_count item (s ∷ []) checks t all sizes_of refl;
          long_body = body_long item (s ∷ []) checks t all sizes_of refl;
          rooted = λ col next at. refl;
          asserts = λ col next at. ap₂ (λ i j. i ++ j) (root_streams item (s ∷ []) checks t all sizes_of refl col next (s ∷ []) refl at) (inner_asserts item (s ∷ []) checks t all sizes_of refl col next at);
          holds = λ w prefix marked next k at. body_holds item (s ∷ []) checks t all sizes_of refl w prefix marked next k refl at;
        }

    -- the items' roots have the streams of their variables
    abbrev Rooted : Columns → ℕ → List Item → Type 0
    Rooted col next [] = Unit {0}
    Rooted col next (item ∷ items) = (map col (places_from next (left_of item)) ≡ map of (left_of item)) × Rooted col (next + item_size program node callees item) items

    record ItemsTrace (items : List Item) (checks : List Stream) : Type 0 where
      body : List Stream
      count : length body ≡ items_size program node callees items
      long_body : HaveLength n body
      rooted : (col : Columns) (next : ℕ) → At col next body → Rooted col next items
      asserts : (col : Columns) (next : ℕ) → At col next body → map col (items_asserts program node callees next items) ≡ checks
      holds : (w : World program n node of long callees) (prefix : Name) (marked : Bool) (next k : ℕ)
          → At w.col next body
          → Hold program.width n w.ins w.col next (items_edges program node callees w.table prefix marked next k items)

    items_trace : (P : Name → Type 0)
        → ((calls : List (Calling program n)) → AllByRecursion P (runners program n calls) → EachTraced callees calls)
        → {items : List Item} {checks : List Stream} → AllHold program n node of items checks
        → AllByRecursion (HasSize callees) (nodes_called_in items) → AllByRecursion P (nodes_called_in items)
        → ItemsTrace items checks
    items_trace P under holds_none sizes_of nested = record { body = []; count = refl; long_body = tt; rooted = λ col next at. tt; asserts = λ col next at. refl; holds = λ w prefix marked next k at. tt }
    items_trace P under (holds_more {item = item} {items = items} one more) sizes_of nested =
        let sizes_one = all_left (HasSize callees) (nodes_called (right_of item)) _ sizes_of in
        let t = item_trace one sizes_one (λ streams checks t. under t.calls (subst (AllByRecursion P) (sym t.called_by) (all_left P (nodes_called (right_of item)) _ nested))) in
        let u = items_trace P under more (all_right (HasSize callees) (nodes_called (right_of item)) _ sizes_of) (all_right P (nodes_called (right_of item)) _ nested) in
        let later = λ (col : Columns) (next : ℕ) (at : At col next (t.body ++ u.body)). at_place col u.body (ap (λ k. next + k) t.count) (at_right col next t.body u.body at) in
        record {
          body = t.body ++ u.body;
          count = length-append t.body u.body ∙ ap₂ (λ i j. i + j) t.count u.count;
          long_body = all_append _ t.body u.body t.long_body u.long_body;
          rooted = λ col next at. (t.rooted col next (at_left col next t.body u.body at), u.rooted col (next + item_size program node callees item) (later col next at));
          asserts = λ col next at. map-append col (root_asserts next item ++ instance_asserts callees (inner_place program node next item) (nodes_called (right_of item))) _
              ∙ ap₂ (λ i j. i ++ j) (t.asserts col next (at_left col next t.body u.body at)) (u.asserts col (next + item_size program node callees item) (later col next at));
          holds = λ w prefix marked next k at. hold_append program.width n w.ins w.col next (item_edges program node callees w.table prefix marked next k item) _
              (t.holds w prefix marked next k (at_left w.col next t.body u.body at))
              (hold_at program.width n w.ins w.col _ (ap (λ c. next + c) (sym (item_length program node callees w.table prefix marked next k item sizes_one)))
              (u.holds w prefix marked (next + item_size program node callees item) (next_assertion k item) (later w.col next at)));
        }

    -- a defined variable's root has its stream
    root_found : (col : Columns) (next : ℕ) (items : List Item) → Rooted col next items → (x : Name)
        → In x (lefts items) → col (place_of (item_places program node callees next items) x) ≡ of x
    root_found col next [] rooted x i = elim i [ ]
    root_found col next (item ∷ items) rooted x i = step (in_append (left_of item) (lefts items) x i) (found_or_behind col of (left_of item) (places_from next (left_of item)) (item_places program node callees (next + item_size program node callees item) items) rooted.0 x) (root_found col (next + item_size program node callees item) items rooted.1 x)
      where
        step : (In x (left_of item)) ⊎ (In x (lefts items))
            → (col (place_of (item_places program node callees next (item ∷ items)) x) ≡ of x) ⊎ ((In x (left_of item) → ⊥) × (place_of (item_places program node callees next (item ∷ items)) x ≡ place_of (item_places program node callees (next + item_size program node callees item) items) x))
            → (In x (lefts items) → col (place_of (item_places program node callees (next + item_size program node callees item) items) x) ≡ of x)
            → col (place_of (item_places program node callees next (item ∷ items)) x) ≡ of x
        step in_x (inl found) later = found
        step (inl j) (inr behind) later = absurd (behind.0 j)
        step (inr j) (inr behind) later = ap col behind.1 ∙ later j

    -- and so has each variable, over arguments with the inputs' streams
    variable_found : (col : Columns) (args : List ℕ) (start : ℕ) → map col args ≡ map of (names node.inputs)
        → Rooted col start node.items → (x : Name) → In x (names node.inputs ++ lefts node.items)
        → col (place_of (places_over program node callees args start) x) ≡ of x
    variable_found col args start same_ins rooted x i = step (in_append (names node.inputs) (lefts node.items) x i) (found_or_behind col of (names node.inputs) args (item_places program node callees start node.items) same_ins x)
      where
        step : (In x (names node.inputs)) ⊎ (In x (lefts node.items))
            → (col (place_of (places_over program node callees args start) x) ≡ of x) ⊎ ((In x (names node.inputs) → ⊥) × (place_of (places_over program node callees args start) x ≡ place_of (item_places program node callees start node.items) x))
            → col (place_of (places_over program node callees args start) x) ≡ of x
        step in_x (inl found) = found
        step (inl j) (inr behind) = absurd (behind.0 j)
        step (inr j) (inr behind) = ap col behind.1 ∙ root_found col start node.items rooted x j

  outputs_found : (col : Columns) (of : Streams) (table : Places) (xs : List Name)
      → ((x : Name) → In x xs → col (place_of table x) ≡ of x) → map col (map (place_of table) xs) ≡ map of xs
  outputs_found col of table [] h = refl
  outputs_found col of table (x ∷ xs) h = ap₂ (λ a l. a ∷ l) (h x here) (outputs_found col of table xs (λ y i. h y (there i)))

  -- a node over nodes that are traced
  module _ (whole : IsWellFormed program) where
    -- what is traced of an instance of a node that the program has
    abbrev TracedOver : Callees → Option Node → List Stream → List Stream → List Stream → Type 0
    TracedOver callees o ins outs checks =
        (body : List Stream) × (length body ≡ size_over program callees o) × (HaveLength n body)
        × ((col : Columns) (start : ℕ) → At col start body → map col (results_over program callees o start) ≡ outs)
        × ((col : Columns) (start : ℕ) → At col start body → map col (asserts_over program callees o start) ≡ checks)
        × ((col : Columns) (inputs : List Stream) (args : List ℕ) (prefix : Name) (marked : Bool) (start : ℕ) → At col start body → map col args ≡ ins → Hold program.width n inputs col start (edges_over program callees o args prefix marked start))

    node_traced : (callees : Callees) (P : Name → Type 0)
        → ((calls : List (Calling program n)) → AllByRecursion P (runners program n calls) → EachTraced callees calls)
        → (node : Node) → IsDefining program node → AllByRecursion (HasSize callees) (nodes_called_in node.items)
        → AllByRecursion P (nodes_called_in node.items)
        → (of : Streams) → HaveLength n (map of (names (variables node))) → {checks : List Stream} → AllHold program n node of node.items checks
        → TracedOver callees (Some node) (map of (names node.inputs)) (map of (names node.outputs)) checks
    node_traced callees P under node is sizes_of nested of longs all =
        let long = λ (x : Name) (ty : Ty) (m : type_in node x ≡ Some ty). long_in n of (names (variables node)) x longs (variable_in node x ty m) in
        let t = items_trace node of long callees P under all sizes_of nested in (
          t.body,
          t.count,
          t.long_body,
          (λ col start at. outputs_found col of (item_places program node callees start node.items) (names node.outputs) (λ x i. root_found node of long callees col start node.items (t.rooted col start at) x (all_in _ (names node.outputs) x is.outputs i))),
          t.asserts,
          (λ col inputs args prefix marked start at same_ins. t.holds (record {
            table = places_over program node callees args start;
            ins = inputs;
            col = col;
            bound = λ x ty m. variable_found node of long callees col args start same_ins (t.rooted col start at) x (is.defined x ty m);
          }) prefix marked start 1 at),
        )

    runs_traced : (callees : Callees) (P : Name → Type 0)
        → ((calls : List (Calling program n)) → AllByRecursion P (runners program n calls) → EachTraced callees calls)
        → {g : Name} {ins outs checks : List Stream} → Runs program n g ins outs checks → (node : Node)
        → program.node g ≡ Some node → AllByRecursion (HasSize callees) (nodes_called_in node.items)
        → AllByRecursion P (nodes_called_in node.items) → TracedOver callees (Some node) ins outs checks
    runs_traced callees P under (runs {node = other_node} {checks = checks} of found longs all) node same_node sizes_of nested =
        let one : node ≡ other_node = cc in
        subst (λ (k : Node). AllByRecursion (HasSize callees) (nodes_called_in k.items) → AllByRecursion P (nodes_called_in k.items) → TracedOver callees (Some k) (map of (names other_node.inputs)) (map of (names other_node.outputs)) checks) (sym one)
        (λ sizes_of nested. node_traced callees P under other_node (whole.nodes _ other_node found) sizes_of nested of longs all) sizes_of nested

    each_traced : (depth : ℕ)
        → ((g : Name) (ins outs checks : List Stream) → IsNested program depth g → Runs program n g ins outs checks → Traced (callees_within program depth) g ins outs checks)
        → (calls : List (Calling program n)) → AllByRecursion (IsNested program depth) (runners program n calls)
        → EachTraced (callees_within program depth) calls
    each_traced depth f [] nested = tt
    each_traced depth f (r ∷ calls) nested = (f r.node r.ins r.outs r.checks nested.0 r.run, each_traced depth f calls nested.1)

    pub traced : (depth : ℕ) (g : Name) (ins outs checks : List Stream) → IsNested program depth g
        → Runs program n g ins outs checks → Traced (callees_within program depth) g ins outs checks
    traced zero g ins outs checks nested run = absurd nested
    traced (suc depth) g ins outs checks nested run =
        let t = subst (λ (o : Option Node). TracedOver (callees_within program depth) o ins outs checks) (sym nested.1)
        (runs_traced (callees_within program depth) (IsNested program depth) (each_traced depth (traced depth)) run nested.0 nested.1 (sized_all program depth (nodes_called_in nested.0.items) nested.2) nested.2) in
        record { body = t.0; count = t.1; long = t.2; results = t.3; asserts = t.4; holds = t.5 }
