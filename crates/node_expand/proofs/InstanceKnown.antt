-- An instance of a node as code makes it: over the node that its name means.
use Rattle.std.proofs.Common.{◌≡◌, ℕ, zero, suc, ◌+◌, ◌≤◌, ◌<◌, Bool, List, [], ◌∷◌, ◌++◌, length, map, refl, sym, ap, ◌∙◌, subst, arith}
use Rattle.std.specs.Prelude.{Option, Some, None, slice_get, zip}
use Rattle.std.specs.List.{AllByRecursion}
use Rattle.op_network.specs.declared.limits.TheConstants.{MOST_EDGES}
use Rattle.lus_syntax.specs.declared.ast.Decl.{Decl}
use Rattle.lus_types.specs.declared.typed.Typed.{Typed}
use Rattle.lus_types.specs.Names.{Name, Globals, globals}
use Rattle.lus_types.specs.Programs.{Node, Program, names, node_at_place, node_declared, type_of_name}
use Rattle.node_expand.specs.declared.draft.Draft.{Draft}
use Rattle.node_expand.specs.declared.header.Variable.{Variable}
use Rattle.node_expand.specs.declared.instances.Callee.{Callee}
use Rattle.node_expand.specs.declared.tables.Tables.{Tables}
use Rattle.node_expand.specs.Counts.{items_size, nodes_called_in}
use Rattle.node_expand.specs.Drafts.{AddsInstance, AddsItems, IsCallee, bare}
use Rattle.node_expand.specs.Fragments.{Callees, Places, edge}
use Rattle.node_expand.specs.Headers.{node_seen}
use Rattle.node_expand.specs.Instances.{places_over}
use Rattle.node_expand.specs.Known.{root_places}
use Rattle.node_expand.specs.Law.{program_in}
use Rattle.node_expand.specs.Making.{AreKnown, callees_at}
use Rattle.node_expand.specs.NameTables.{with_entries}
use Rattle.node_expand.specs.Nesting.{IsNested}
use Rattle.node_expand.specs.NodePlaces.{IsPlaceOf}
use Rattle.node_expand.specs.Variables.{names_of, variable_seen}
use Rattle.node_expand.proofs.Deeper.{nested_within}
use Rattle.node_expand.proofs.PlacesKnown.{IsSized, places_made, roots_are}
use Rattle.node_expand.proofs.Unrolled.{asserts_unrolled, edges_unrolled, size_unrolled}
use Rattle.node_expand.proofs.WellFormed.{defining}

-- the place of a node's declaration
declared_within : (g : Globals) (decls : List Decl) (place : ℕ) (node : Node) → node_declared g (slice_get decls place) ≡ Some node → place < length decls
declared_within g [] place node h = absurd (cc h)
declared_within g (d ∷ decls) zero node h = omega arith
declared_within g (d ∷ decls) (suc place) node h = let less = declared_within g decls place node h in omega (arith, less)

pub place_of_node : (g : Globals) (decls : List Decl) (o : Option ℕ) (place : ℕ) (node : Node) → o ≡ Some place → node_at_place g decls o ≡ Some node → IsPlaceOf g decls node place
place_of_node g decls o place node is h =
    let declared : node_declared g (slice_get decls place) ≡ Some node = ap (node_at_place g decls) (sym is) ∙ h in
    record { declared = declared; within = declared_within g decls place node declared }

pub no_place : (g : Globals) (decls : List Decl) (o : Option ℕ) (node : Node) → o ≡ None → node_at_place g decls o ≡ Some node → ⊥
no_place g decls o node is h = let no : None ≡ Some node = ap (node_at_place g decls) (sym is) ∙ h in cc no

pub names_seen : (vs : List Variable) → names_of vs ≡ names (map variable_seen vs)
names_seen [] = refl
names_seen (v ∷ vs) = ap (λ l. v.name ∷ l) (names_seen vs)

module _ (typed : Typed) (tables : Tables) (known : AreKnown typed tables) (depth : ℕ) (deep : depth ≤ tables.depth) where
  abbrev p : Program
  p = program_in typed

  abbrev g : Globals
  g = globals typed.ast.decls

  abbrev full : Callees
  full = callees_at typed tables

  pub sized_all : (gs : List Name) → AllByRecursion (IsNested p depth) gs → AllByRecursion (IsSized g tables.sizes full) gs
  sized_all [] all = tt
  sized_all (f ∷ gs) all = (known.sizes f (nested_within p depth tables.depth f deep all.0), sized_all gs all.1)

  -- what a name's node has in code is what it has in the text, whose names differ
  pub places_known : (f : Name) (node : Node) (callee : Callee) (args : List ℕ) (start : ℕ) (places : Places) → p.node f ≡ Some node → IsCallee p g node callee
      → AllByRecursion (IsNested p depth) (nodes_called_in node.items) → start + items_size p node full node.items ≤ MOST_EDGES
      → places ≡ with_entries (with_entries [] (zip (names_of callee.header.now.inputs) args)) (root_places tables.sizes start callee.items.now callee.outlines.now)
      → places ≡ places_over p node full args start
  places_known f node callee args start places found is nested room made =
      let fine = defining p node (known.program.nodes f node found) in
      let ins : names_of callee.header.now.inputs ≡ names node.inputs = names_seen callee.header.now.inputs ∙ ap (λ (n : Node). names n.inputs) is.header in
      made
      ∙ (λ i. with_entries (with_entries [] (zip (ins i) args)) (root_places tables.sizes start (is.items i) (is.outlines i)))
      ∙ ap (with_entries (with_entries [] (zip (names node.inputs) args)))
      (roots_are p g node (type_of_name p node) tables.sizes full node.items start fine.items (sized_all (nodes_called_in node.items) nested) room)
      ∙ places_made p node full (names node.inputs) args node.items start fine.once

  pub instance_known : (f : Name) (node : Node) (callee : Callee) (args : List ℕ) (prefix : Name) (asserted : Bool) (places : Places) (old new : Draft)
      → IsNested p depth f → p.node f ≡ Some node → IsCallee p g node callee → places ≡ places_over p node full args (length old.edges)
      → AddsItems p (node_seen callee.header.now) full places prefix asserted 1 callee.items.now old new
      → AddsInstance full f args prefix asserted old new
  instance_known f node callee args prefix asserted places old new nested found is same made =
      let at = length old.edges in
      let whole : (node_seen callee.header.now ≡ bare node) = is.header in
      let items : AddsItems p (bare node) full (places_over p node full args at) prefix asserted 1 node.items old new =
      subst (λ ps. AddsItems p (bare node) full ps prefix asserted 1 node.items old new) same
      (subst (λ l. AddsItems p (bare node) full places prefix asserted 1 l old new) is.items
      (subst (λ n. AddsItems p n full places prefix asserted 1 callee.items.now old new) whole made)) in
      let edges = edges_unrolled p depth tables.depth f node deep nested found args prefix asserted at in
      let asserts = asserts_unrolled p depth tables.depth f node deep nested found at in
      let size = size_unrolled p depth tables.depth f node deep nested found in
      record {
        edges = items.edges ∙ ap (λ l. old.edges ++ l) (sym edges);
        asserts = items.asserts ∙ ap (λ l. old.asserts ++ map edge l) (sym asserts);
        size = items.size ∙ ap (λ n. at + n) (sym size);
      }

  pub instance_room : (f : Name) (node : Node) (callee : Callee) (at : ℕ) → IsNested p depth f → p.node f ≡ Some node → IsCallee p g node callee
      → at + full.size f ≤ MOST_EDGES → at + items_size p (node_seen callee.header.now) full callee.items.now ≤ MOST_EDGES
  instance_room f node callee at nested found is room =
      let size = size_unrolled p depth tables.depth f node deep nested found in
      let same : items_size p (node_seen callee.header.now) full callee.items.now ≡ items_size p node full node.items = λ i. items_size p (is.header i) full (is.items i) in
      omega (arith, room, size, same)

  pub node_room : (f : Name) (node : Node) (at : ℕ) → IsNested p depth f → p.node f ≡ Some node → at + full.size f ≤ MOST_EDGES → at + items_size p node full node.items ≤ MOST_EDGES
  node_room f node at nested found room = let size = size_unrolled p depth tables.depth f node deep nested found in omega (arith, room, size)
