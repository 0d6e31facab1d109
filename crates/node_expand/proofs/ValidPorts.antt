-- The input edges and the output edges of a network have the names and the types of the main node's variables.
use Rattle.std.proofs.Common.{◌≡◌, ℕ, zero, suc, ◌+◌, Bool, true, false, cond, ◌||◌, Option, Some, List, [], ◌∷◌, ◌++◌, length, map, drop, refl, sym, ap, ap₂, subst, ◌∙◌, arith}
use Rattle.std.specs.List.{AllByRecursion, AllZip}
use Rattle.lus_syntax.specs.declared.ast.Item.{Item}
use Rattle.lus_syntax.specs.declared.ast.Item.TheVariants.{Assert, Equation}
use Rattle.lus_syntax.specs.declared.ast.Spot.{Spot}
use Rattle.op_network.specs.declared.edge.Edge.{Edge}
use Rattle.op_network.specs.declared.edge.Parts.{Parts}
use Rattle.op_network.specs.declared.value.Ty.{Ty}
use Rattle.op_network.specs.Valid.{type_of}
use Rattle.lus_types.specs.Calls.{In}
use Rattle.lus_types.specs.Names.{Name, left_of, lefts, spot_names}
use Rattle.lus_types.specs.Programs.{Node, Program, Variable, names, or_truth, type_of_name, types}
use Rattle.lus_types.specs.ProgramTypes.{HasTypes, IsTypedItem}
use Rattle.node_expand.specs.declared.limits.TheConstants.{MOST_DEPTH}
use Rattle.node_expand.specs.Counts.{has_edge, id_count, inner_place, item_size, nodes_called, nodes_called_in, right_of}
use Rattle.node_expand.specs.Fragments.{Callees, Gate, Places, edge, first_type, place_of}
use Rattle.node_expand.specs.Instances.{edges_over, first_name, id_edges, is_assertion, item_edges, item_fragment, item_places, items_edges, next_assertion, own_edges, places_from, places_over, results_over, roots_of}
use Rattle.node_expand.specs.Nesting.{IsNested, IsWithinDepth}
use Rattle.node_expand.specs.Network.{callees_within, input_edges, inputs_of, network, network_within}
use Rattle.node_expand.specs.Ports.{HasPorts, IsEdgeOf, name_of}
use Rattle.node_expand.proofs.Lists.{all_in, all_left, all_right}
use Rattle.node_expand.proofs.Places.{places_map}
use Rattle.node_expand.proofs.Sizes.{HasSize, ids_of, ids_of_length, item_length, owns_of, sized_all}
use Rattle.node_expand.proofs.TypedExprs.{StandAt, gate_types, outputs_of, stand_at}
use Rattle.node_expand.proofs.TypedNodes.{edge_types, edges_left, edges_right, ids_of_roots, instance_typed, own_headed, parts_at, parts_left, parts_right, right_typed, single_type}
use Rattle.node_expand.proofs.UniqueNames.{edge_names}
use Rattle.node_expand.proofs.ValidFacts.{IsExpandable}
use Rattle.node_expand.proofs.ValidNetworks.{inputs_count, inputs_types}
use Rattle.node_expand.proofs.ValidRoots.{Rooted, all_found, root_found}
use Rattle.node_expand.proofs.WellFormed.{IsDefining, defining}

-- ---- names of roots

ids_names : (named : ℕ → Option Name) (prefix : Name) (marked : Bool) (k : ℕ) (roots : List Variable) (values : List ℕ)
    → StandAt named k (edge_names (id_edges prefix marked roots values))
    → map named (places_from k roots) ≡ map (λ (r : Variable). Some (prefix ++ r.name)) roots
ids_names named prefix marked k [] values h = refl
ids_names named prefix marked k (r ∷ roots) values h = ap₂ (λ a l. a ∷ l) h.0 (ids_names named prefix marked (suc k) roots (drop 1 values) h.1)

first_own : (named : ℕ → Option Name) (x : Name) (marked : Bool) (k : ℕ) (gates : List Gate) (t : Ty) (rest : List Ty)
    → gate_types gates ≡ t ∷ rest → (b : Bool) → b ≡ true
    → StandAt named k (edge_names (own_edges x marked (cond b 0 1) gates)) → named k ≡ Some x
first_own named x marked k [] t rest e b is h = absurd (cc e)
first_own named x marked k (g ∷ gates) t rest e true is h = h.0
first_own named x marked k (g ∷ gates) t rest e false is h = absurd (cc is)

spot_roots : (prefix : Name) (f : Name → Option Ty) (left : List Spot)
    → map (λ (r : Variable). Some (prefix ++ r.name)) (map (λ (s : Spot). record { name = s.text; ty = or_truth (f s.text) }) left) ≡ map (λ x. Some (prefix ++ x)) (spot_names left)
spot_roots prefix f [] = refl
spot_roots prefix f (s ∷ left) = ap (λ l. Some (prefix ++ s.text) ∷ l) (spot_roots prefix f left)

module _ (program : Program) (node : Node) (callees : Callees) (table : Places) (named : ℕ → Option Name) (prefix : Name) (asserted : Bool) where
  item_roots : (next k : ℕ) (item : Item) → IsTypedItem (type_of_name program node) program.node item
      → StandAt named next (edge_names (item_edges program node callees table prefix asserted next k item))
      → map named (places_from next (roots_of program node k item)) ≡ map (λ (r : Variable). Some (prefix ++ r.name)) (roots_of program node k item)
  item_roots next k item is h =
      step (right_typed program node k item is) (has_edge program node (right_of item)) refl
      (parts_left (λ (e : Edge). e.name) named next (ids_of program node callees table prefix asserted next k item) _ h) owns
    where
      roots : List Variable
      roots = roots_of program node k item

      owns : StandAt named (next + id_count program node item) (edge_names (owns_of program node callees table prefix asserted next k item))
      owns =
          stand_at named _ (ap (λ c. next + c) (ids_of_length program node callees table prefix asserted next k item))
          (parts_left (λ (e : Edge). e.name) named _ (owns_of program node callees table prefix asserted next k item) _
          (parts_right (λ (e : Edge). e.name) named next (ids_of program node callees table prefix asserted next k item) _ h))

      one_root : (rs : List Variable) → types rs ≡ first_type (types rs) ∷ []
          → named next ≡ Some (prefix ++ first_name rs)
          → map named (places_from next rs) ≡ map (λ (r : Variable). Some (prefix ++ r.name)) rs
      one_root [] e f = refl
      one_root (r ∷ []) e f = ap (λ a. a ∷ []) f
      one_root (r ∷ q ∷ rs) e f = absurd (cc e)

      step : HasTypes (type_of_name program node) program.node (right_of item) (types (roots_of program node k item))
          → (b : Bool) → has_edge program node (right_of item) ≡ b
          → StandAt named next (edge_names (cond b [] (id_edges prefix (asserted || is_assertion item) (roots_of program node k item) (item_fragment program node callees table next item).values)))
          → StandAt named (next + id_count program node item) (edge_names (owns_of program node callees table prefix asserted next k item))
          → map named (places_from next (roots_of program node k item)) ≡ map (λ (r : Variable). Some (prefix ++ r.name)) (roots_of program node k item)
      step p true own ids owns =
          let headed = own_headed program node callees table (right_of item) (types (roots_of program node k item)) p own (next + id_count program node item) (inner_place program node next item) in
          let none : id_count program node item ≡ 0 = ids_of_roots program node k item ∙ ap (λ b. cond b 0 (length (roots_of program node k item))) own in
          let first = first_own named _ _ (next + id_count program node item) (item_fragment program node callees table next item).own _ headed.0 headed.1 (has_edge program node (right_of item)) own owns in
          one_root (roots_of program node k item) (single_type program node callees table p own) (ap named (omega (arith, none)) ∙ first)
      step p false own ids owns = ids_names named prefix (asserted || is_assertion item) next (roots_of program node k item) (item_fragment program node callees table next item).values ids

  left_named : (next k : ℕ) (item : Item) → IsTypedItem (type_of_name program node) program.node item
      → StandAt named next (edge_names (item_edges program node callees table prefix asserted next k item))
      → map named (places_from next (left_of item)) ≡ map (λ x. Some (prefix ++ x)) (left_of item)
  left_named next k (Assert place e) is h = refl
  left_named next k (Equation place left e) is h =
      ap (map named) (places_map _ next left ∙ sym (places_map _ next left))
      ∙ item_roots next k (Equation place left e) is h ∙ spot_roots prefix (type_of_name program node) left

  items_named : (next k : ℕ) (items : List Item)
      → AllByRecursion (IsTypedItem (type_of_name program node) program.node) items
      → AllByRecursion (HasSize callees) (nodes_called_in items)
      → StandAt named next (edge_names (items_edges program node callees table prefix asserted next k items)) → Rooted program node callees named (λ x. Some (prefix ++ x)) next items
  items_named next k [] is size h = tt
  items_named next k (item ∷ items) is size h = (
    left_named next k item is.0 (parts_left (λ (e : Edge). e.name) named next (item_edges program node callees table prefix asserted next k item) _ h),
    items_named (next + item_size program node callees item) (next_assertion k item) items is.1 (all_right (HasSize callees) (nodes_called (right_of item)) _ size)
        (stand_at named _ (ap (λ c. next + c) (item_length program node callees table prefix asserted next k item (all_left (HasSize callees) (nodes_called (right_of item)) _ size)))
        (parts_right (λ (e : Edge). e.name) named next (item_edges program node callees table prefix asserted next k item) _ h)),
  )

-- ---- the network

inputs_names : (named : ℕ → Option Name) (i k : ℕ) (inputs : List Variable)
    → StandAt named k (edge_names (input_edges i inputs)) → map named (places_from k inputs) ≡ map Some (names inputs)
inputs_names named i k [] h = refl
inputs_names named i k (v ∷ inputs) h = ap₂ (λ a l. a ∷ l) h.0 (inputs_names named (suc i) (suc k) inputs h.1)

ports_are : (edges : List Edge) (ps : List ℕ) (vs : List Variable)
    → map (λ p. name_of edges (edge p)) ps ≡ map Some (names vs)
    → map (λ p. type_of edges (edge p)) ps ≡ map Some (types vs) → AllZip (IsEdgeOf edges) (map edge ps) vs
ports_are edges [] [] e f = tt
ports_are edges [] (v ∷ vs) e f = absurd (cc e)
ports_are edges (p ∷ ps) [] e f = absurd (cc e)
ports_are edges (p ∷ ps) (v ∷ vs) e f = (record { name = cc e; ty = cc f }, ports_are edges ps vs (cc e) (cc f))

some_names : (xs : List Name) → map (λ x. Some ([] ++ x)) xs ≡ map Some xs
some_names [] = refl
some_names (x ∷ xs) = ap (λ l. Some x ∷ l) (some_names xs)

module _ (program : Program) (whole : IsExpandable program) (depth : ℕ) (main : Name) (node : Node) (known : program.node main ≡ Some node) (nested : IsNested program (suc depth) main) where
  abbrev parts : Parts
  parts = network_within (suc depth) program main

  abbrev named : ℕ → Option Name
  named p = name_of parts.edges (edge p)

  abbrev at : ℕ → Option Ty
  at p = type_of parts.edges (edge p)

  abbrev inputs : List Variable
  inputs = inputs_of (program.node main)

  abbrev body : List Edge
  body = (callees_within program (suc depth)).edges main (places_from 0 inputs) [] false (length inputs)

  same_node : nested.0 ≡ node
  same_node = let same : Some nested.0 ≡ Some node = sym nested.1 ∙ known in cc same

  whole_names : StandAt named 0 (edge_names parts.edges)
  whole_names = parts_at (λ (e : Edge). e.name) parts.edges parts.edges 0 (λ i. ap named (omega arith))

  whole_types : StandAt at 0 (edge_types parts.edges)
  whole_types = parts_at (λ (e : Edge). e.ty) parts.edges parts.edges 0 (λ i. ap at (omega arith))

  body_names : StandAt named (length inputs) (edge_names body)
  body_names = stand_at named (edge_names body) (omega (arith, inputs_count 0 inputs)) (parts_right (λ (e : Edge). e.name) named 0 (input_edges 0 inputs) body whole_names)

  body_types : StandAt at (length inputs) (edge_types body)
  body_types = stand_at at (edge_types body) (omega (arith, inputs_count 0 inputs)) (edges_right at 0 (input_edges 0 inputs) body whole_types)

  result_names : map named ((callees_within program (suc depth)).results main (length inputs)) ≡ map Some (names node.outputs)
  result_names =
      let callees = callees_within program depth in
      let start = length inputs in
      let is : IsDefining program node = defining program node (whole.typed.nodes main node known) in
      let size = sized_all program depth (nodes_called_in node.items) (subst (λ (n : Node). AllByRecursion (IsNested program depth) (nodes_called_in n.items)) same_node nested.2) in
      subst (λ (o : Option Node). StandAt named start (edge_names (edges_over program callees o (places_from 0 inputs) [] false start)) → map named (results_over program callees o start) ≡ map Some (names node.outputs)) (sym known)
      (λ h.
      let rooted = items_named program node callees (places_over program node callees (places_from 0 inputs) start) named [] false start 1 node.items is.items size h in
      all_found program node callees named (λ x. Some ([] ++ x)) (place_of (item_places program node callees start node.items)) (names node.outputs)
      (λ x i. root_found program node callees named (λ x. Some ([] ++ x)) start node.items rooted x (all_in (λ z. In z (lefts node.items)) (names node.outputs) x is.outputs i))
      ∙ some_names (names node.outputs))
      body_names

  result_types : map at ((callees_within program (suc depth)).results main (length inputs)) ≡ map Some (types node.outputs)
  result_types =
      (instance_typed program whole at (suc depth) main nested).results (places_from 0 inputs) [] false (length inputs) body_types
      ∙ ap (λ (o : Option Node). map Some (types (outputs_of o))) known

  ports_within : HasPorts parts node
  ports_within =
      let ins = ap inputs_of known in
      record {
        inputs = subst (λ vs. AllZip (IsEdgeOf parts.edges) parts.inputs vs) ins
            (ports_are parts.edges (places_from 0 inputs) inputs (inputs_names named 0 0 inputs (parts_left (λ (e : Edge). e.name) named 0 (input_edges 0 inputs) body whole_names))
            (inputs_types at 0 0 inputs (edges_left at 0 (input_edges 0 inputs) body whole_types)));
        outputs = ports_are parts.edges ((callees_within program (suc depth)).results main (length inputs)) node.outputs result_names result_types;
      }

pub ports_nested : (program : Program) → IsExpandable program → (depth : ℕ) (main : Name) (node : Node)
    → program.node main ≡ Some node → IsNested program depth main → HasPorts (network_within depth program main) node
ports_nested program whole zero main node known nested = absurd nested
ports_nested program whole (suc depth) main node known nested = ports_within program whole depth main node known nested

-- The inputs and the outputs of the network of a typed program, whose calls are not nested too deep, are those of its main node.
pub network_has_ports : (program : Program) (main : Name) (node : Node) → IsExpandable program
    → IsWithinDepth program main → program.node main ≡ Some node → HasPorts (network program main) node
unfolding network IsWithinDepth
network_has_ports program main node whole nested known = ports_nested program whole MOST_DEPTH main node known nested
