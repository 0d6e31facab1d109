-- The tables of code know the sizes and the results of nodes.
use Rattle.std.proofs.Common.{◌≡◌, ℕ, zero, suc, ◌+◌, ◌-◌, ◌≤◌, min, List, [], ◌∷◌, map, refl, sym, ap, ap₂, ◌∙◌, arith, get_or}
use Rattle.std.specs.Prelude.{Option, Some, None, unwrap_or, slice_get}
use Rattle.std.specs.List.{AllByRecursion}
use Rattle.op_network.specs.declared.limits.TheConstants.{MOST_EDGES}
use Rattle.lus_syntax.specs.declared.ast.Decl.{Decl}
use Rattle.lus_syntax.specs.declared.ast.Decl.TheVariants.{TypeDecl, ConstDecl, NodeDecl}
use Rattle.lus_syntax.specs.declared.ast.Item.{Item}
use Rattle.op_network.specs.declared.value.Ty.{Ty}
use Rattle.lus_types.specs.Calls.{In}
use Rattle.lus_types.specs.Names.{Name, Globals, lefts}
use Rattle.lus_types.specs.Programs.{Node, Program, names, node_at_place, node_declared, type_of_name, variables_of}
use Rattle.lus_types.specs.ProgramTypes.{AreDistinct, IsTypedItem, IsTypedProgram}
use Rattle.node_expand.specs.declared.limits.TheConstants.{MANY}
use Rattle.node_expand.specs.Counts.{items_size, nodes_called_in}
use Rattle.node_expand.specs.Fragments.{Callees, place_of}
use Rattle.node_expand.specs.Headers.{head_of, items_of}
use Rattle.node_expand.specs.Instances.{item_places}
use Rattle.node_expand.specs.Known.{all_results, result_places, results_among, results_at, root_places}
use Rattle.node_expand.specs.NameTables.{with_entries}
use Rattle.node_expand.specs.Nesting.{IsNested}
use Rattle.node_expand.specs.Network.{callees_within}
use Rattle.node_expand.specs.Outlines.{Measure, all_outlines, callee, measure_at, measures, outline, outlines_of}
use Rattle.node_expand.proofs.Deeper.{nested_within}
use Rattle.node_expand.proofs.Measured.{IsMeasure, measured}
use Rattle.node_expand.proofs.NamesFound.{found_fresh}
use Rattle.node_expand.proofs.Places.{distinct_right}
use Rattle.node_expand.proofs.PlacesKnown.{IsSized, roots_are}
use Rattle.node_expand.proofs.ResultsKnown.{rooted}
use Rattle.node_expand.proofs.Unrolled.{node_below, results_unrolled, size_unrolled}
use Rattle.node_expand.proofs.WellFormed.{defining}

module _ (p : Program) (node : Node) (name_type : Name → Option Ty) (c : Callees) (items : List Item) (typed : AllByRecursion (IsTypedItem name_type p.node) items) (distinct : AreDistinct (lefts items)) (few : items_size p node c items ≤ MOST_EDGES) where
  one_result : (start : ℕ) (x : Name) → In x (lefts items)
      → start + min (place_of (with_entries [] (item_places p node c 0 items)) x) MANY ≡ place_of (item_places p node c start items) x
  one_result start x i =
      let r = rooted p node name_type c items 0 x typed distinct i in
      let first : place_of (with_entries [] (item_places p node c 0 items)) x ≡ 0 + r.place = ap (λ o. unwrap_or o 0) (found_fresh (item_places p node c 0 items) x ∙ r.at 0) in
      let at : start + 0 ≡ start = omega arith in
      let later : place_of (item_places p node c start items) x ≡ start + r.place = ap (λ n. place_of (item_places p node c n items) x) (sym at) ∙ ap (λ o. unwrap_or o 0) (r.at start) in
      let below = r.below in
      let same : start + min (place_of (with_entries [] (item_places p node c 0 items)) x) MANY ≡ start + r.place = omega (arith, first, below, few) in
      same ∙ sym later

  pub results_same : (start : ℕ) (xs : List Name) → AllByRecursion (λ x. In x (lefts items)) xs
      → map (λ k. start + k) (map (λ x. min (place_of (with_entries [] (item_places p node c 0 items)) x) MANY) xs) ≡ map (place_of (item_places p node c start items)) xs
  results_same start [] all = refl
  results_same start (x ∷ xs) all = ap₂ (λ n l. n ∷ l) (one_result start x all.0) (results_same start xs all.1)

get_mapped : {A : Type 0} (f : Decl → List A) (decls : List Decl) (place : ℕ) (d : Decl) → slice_get decls place ≡ Some d → get_or (map f decls) place [] ≡ f d
get_mapped f [] place d is = absurd (cc is)
get_mapped f (x ∷ decls) zero d is = let same : x ≡ d = cc in ap f same
get_mapped f (x ∷ decls) (suc place) d is = get_mapped f decls place d is

size_of_measure : (p : Program) (depth : ℕ) (f : Name) (m : Measure) → IsMeasure p depth f m → IsNested p depth f → m ≡ Some (min ((callees_within p depth).size f) MANY)
size_of_measure p depth f None h nested = absurd (h nested)
size_of_measure p depth f (Some m) h nested = ap (λ n. Some n) h.1

module _ (p : Program) (g : Globals) (decls : List Decl) (same : (f : Name) → p.node f ≡ node_at_place g decls (callee g f)) (program : IsTypedProgram p) (depth : ℕ) where
  abbrev full : Callees
  full = callees_within p depth

  abbrev sizes : List Measure
  sizes = measures (all_outlines p g decls) depth

  pub known_size : (f : Name) → IsNested p depth f → measure_at (measures (all_outlines p g decls) depth) (callee g f) ≡ Some (min ((callees_within p depth).size f) MANY)
  known_size f nested =
      let nb = node_below p depth f nested in
      size_of_measure p depth f (measure_at (measures (all_outlines p g decls) depth) (callee g f)) (measured p g decls same program depth f nb.node nb.found) nested

  sized : (below : ℕ) → below ≤ depth → (gs : List Name) → AllByRecursion (IsNested p below) gs → AllByRecursion (IsSized g (measures (all_outlines p g decls) depth) (callees_within p depth)) gs
  sized below deep [] all = tt
  sized below deep (h ∷ gs) all = (known_size h (nested_within p below depth h deep all.0), sized below deep gs all.1)

  declared_results : (f : Name) (d : Option Decl) (node : Node) (start : ℕ) → IsNested p depth f → p.node f ≡ Some node → node_declared g d ≡ Some node → AllByRecursion (IsNested p depth) (nodes_called_in node.items)
      → (callees_within p depth).size f ≤ MOST_EDGES → (place : ℕ) → slice_get decls place ≡ d
      → map (λ k. start + k) (get_or (all_results p g (measures (all_outlines p g decls) depth) decls) place []) ≡ (callees_within p depth).results f start
  declared_results f None node start nested found is calls few place at = absurd (cc is)
  declared_results f (Some (TypeDecl a b c)) node start nested found is calls few place at = absurd (cc is)
  declared_results f (Some (ConstDecl a b c d)) node start nested found is calls few place at = absurd (cc is)
  declared_results f (Some (NodeDecl a name inputs outputs locals items)) node start nested found is calls few place at =
      let decl : Decl = NodeDecl a name inputs outputs locals items in
      let n : Node = record { name = name.text; inputs = variables_of g inputs; outputs = variables_of g outputs; locals = variables_of g locals; items = items } in
      let both : Some n ≡ Some node = is in
      let one : n ≡ node = cc in
      let fine = defining p node (program.nodes f node found) in
      let size : (callees_within p depth).size f ≡ items_size p node (callees_within p depth) node.items = size_unrolled p depth depth f node (omega arith) nested found in
      let room : 0 + items_size p node (callees_within p depth) node.items ≤ MOST_EDGES = omega (arith, size, few) in
      let count : items_size p node (callees_within p depth) node.items ≤ MOST_EDGES = omega (arith, size, few) in
      let roots : root_places (measures (all_outlines p g decls) depth) 0 node.items (map (outline p g node) node.items) ≡ item_places p node (callees_within p depth) 0 node.items =
      roots_are p g node (type_of_name p node) (measures (all_outlines p g decls) depth) (callees_within p depth) node.items 0 fine.items (sized depth (omega arith) (nodes_called_in node.items) calls) room in
      let results : result_places (measures (all_outlines p g decls) depth) (head_of g decl) items (outlines_of p g decl) ≡ results_among (measures (all_outlines p g decls) depth) node.items (map (outline p g node) node.items) (names node.outputs) =
      ap (λ (k : Node). results_among (measures (all_outlines p g decls) depth) k.items (map (outline p g k) k.items) (names k.outputs)) one in
      let distinct : AreDistinct (lefts node.items) = distinct_right (names node.inputs) (lefts node.items) fine.once in
      ap (map (λ k. start + k)) (get_mapped (λ d. result_places (measures (all_outlines p g decls) depth) (head_of g d) (items_of d) (outlines_of p g d)) decls place decl at ∙ results
      ∙ ap (λ es. map (λ x. min (place_of (with_entries [] es) x) MANY) (names node.outputs)) roots)
      ∙ results_same p node (type_of_name p node) (callees_within p depth) node.items fine.items distinct count start (names node.outputs) fine.outputs
      ∙ sym (results_unrolled p depth depth f node (omega arith) nested found start)

  at_place : (f : Name) (o : Option ℕ) (node : Node) (start : ℕ) → IsNested p depth f → p.node f ≡ Some node → node_at_place g decls o ≡ Some node → AllByRecursion (IsNested p depth) (nodes_called_in node.items)
      → (callees_within p depth).size f ≤ MOST_EDGES → map (λ k. start + k) (results_at (all_results p g (measures (all_outlines p g decls) depth) decls) o) ≡ (callees_within p depth).results f start
  at_place f None node start nested found is calls few = absurd (cc is)
  at_place f (Some place) node start nested found is calls few = declared_results f (slice_get decls place) node start nested found is calls few place refl

  each_deeper : (below : ℕ) → below ≤ depth → (gs : List Name) → AllByRecursion (IsNested p below) gs → AllByRecursion (IsNested p depth) gs
  each_deeper below deep [] all = tt
  each_deeper below deep (h ∷ gs) all = (nested_within p below depth h deep all.0, each_deeper below deep gs all.1)

  pub known_results : (f : Name) → IsNested p depth f → (callees_within p depth).size f ≤ MOST_EDGES → (start : ℕ)
      → map (λ k. start + k) (results_at (all_results p g (measures (all_outlines p g decls) depth) decls) (callee g f)) ≡ (callees_within p depth).results f start
  known_results f nested few start =
      let nb = node_below p depth f nested in
      at_place f (callee g f) nb.node start nested nb.found (sym (same f) ∙ nb.found) (each_deeper (depth - 1) (omega arith) (nodes_called_in nb.node.items) nb.below) few
