-- An instance of a node: where its variables stand, its edges with their names, and its assertions.
use Rattle.std.specs.Prelude.{ℕ, zero, suc, ◌+◌, Bool, true, false, if◌then◌else◌, ◌||◌, ◌==◌, List, [], ◌∷◌, ◌++◌, map, drop, Option, Some, None, codes, decimal, zip}
use Rattle.lus_syntax.specs.declared.ast.Item.{Item}
use Rattle.lus_syntax.specs.declared.ast.Item.TheVariants.{Assert, Equation}
use Rattle.lus_syntax.specs.declared.ast.Spot.{Spot}
use Rattle.op_network.specs.declared.edge.Edge.{Edge}
use Rattle.op_network.specs.declared.edge.Op.TheVariants as op
use Rattle.op_network.specs.declared.value.Ty.TheVariants as type
use Rattle.lus_types.specs.Names.{Name, left_of}
use Rattle.lus_types.specs.Programs.{Node, Program, Variable, names, or_truth, type_of_name}
use Rattle.node_expand.specs.Counts.{right_of, has_edge, nodes_called, id_count, inner_place, item_size, items_size}
use Rattle.node_expand.specs.Fragments.{Callees, Call, Fragment, Gate, Places, edge, first_place, fragment, place_of}

-- ---- places

-- places from one on, as many as there are elements
abbrev pub places_from : {A : Type 0} → ℕ → List A → List ℕ
places_from next [] = []
places_from next (x ∷ xs) = next ∷ places_from (suc next) xs

-- the roots of the variables that items define, each item behind all edges of those above
abbrev pub item_places : Program → Node → Callees → ℕ → List Item → Places
item_places program node callees next [] = []
item_places program node callees next (item ∷ items) =
    zip (left_of item) (places_from next (left_of item))
    ++ item_places program node callees (next + item_size program node callees item) items

-- the places of all variables of an instance that begins at a place: an input's edge is the argument's
abbrev pub places_over : Program → Node → Callees → List ℕ → ℕ → Places
places_over program node callees args start =
    zip (names node.inputs) args ++ item_places program node callees start node.items

-- ---- edges

-- The roots of an item: one for each variable that it defines, and one for an assertion, the k-th of its node.
abbrev pub roots_of : Program → Node → ℕ → Item → List Variable
roots_of program node k (Assert at e) = record { name = codes "assert#" ++ decimal k; ty = type.Truth } ∷ []
roots_of program node k (Equation at left e) =
    map (λ (s : Spot). record { name = s.text; ty = or_truth (type_of_name program node s.text) }) left

-- roots that are `Id`, of the values of the right side
abbrev pub id_edges : Name → Bool → List Variable → List ℕ → List Edge
id_edges prefix asserted [] values = []
id_edges prefix asserted (root ∷ roots) values =
    record {
      op = op.Id (edge (first_place values));
      ty = root.ty;
      name = prefix ++ root.name;
      named = true;
      asserted = asserted;
    }
    ∷ id_edges prefix asserted roots (drop 1 values)

-- the root has the item's name, the others this name, `#` and 1, 2, 3 and so on
abbrev pub edge_name : Name → ℕ → Name
edge_name x zero = x
edge_name x (suc k) = x ++ codes "#" ++ decimal (suc k)

-- own edges, from the k-th on
abbrev pub own_edges : Name → Bool → ℕ → List Gate → List Edge
own_edges x asserted k [] = []
own_edges x asserted k (gate ∷ gates) =
    record { op = gate.op; ty = gate.ty; name = edge_name x k; named = k == 0; asserted = asserted }
    ∷ own_edges x asserted (suc k) gates

-- the j-th call under root x, of node f, has names that begin with `x/f#j.`
abbrev pub instance_prefix : Name → Name → ℕ → Name
instance_prefix x f j = x ++ codes "/" ++ f ++ codes "#" ++ decimal j ++ codes "."

-- the instances of an item's calls, from the j-th on
abbrev pub instance_edges : Callees → Name → Bool → ℕ → ℕ → List Call → List Edge
instance_edges callees x asserted j start [] = []
instance_edges callees x asserted j start (c ∷ calls) =
    callees.edges c.node c.args (instance_prefix x c.node j) asserted start
    ++ instance_edges callees x asserted (suc j) (start + callees.size c.node) calls

abbrev pub first_name : List Variable → Name
first_name [] = []
first_name (root ∷ roots) = root.name

abbrev pub is_assertion : Item → Bool
is_assertion (Assert at e) = true
is_assertion (Equation at left e) = false

-- the right side of an item that begins at a place
abbrev pub item_fragment : Program → Node → Callees → Places → ℕ → Item → Fragment
item_fragment program node callees places next item =
    fragment program node callees places (right_of item)
    (next + id_count program node item) (inner_place program node next item)

-- An item's edges: its roots, its other edges, and the instances of its calls.
abbrev pub item_edges : Program → Node → Callees → Places → Name → Bool → ℕ → ℕ → Item → List Edge
item_edges program node callees places prefix asserted next k item =
    let right = item_fragment program node callees places next item in
    let roots = roots_of program node k item in
    let x = prefix ++ first_name roots in
    let marked = asserted || is_assertion item in
    let is_root = has_edge program node (right_of item) in
    (if is_root then [] else id_edges prefix marked roots right.values)
    ++ (own_edges x marked (if is_root then 0 else 1) right.own
    ++ instance_edges callees x marked 1 (inner_place program node next item) right.calls)

-- the number of the next assertion
abbrev pub next_assertion : ℕ → Item → ℕ
next_assertion k (Assert at e) = suc k
next_assertion k (Equation at left e) = k

abbrev pub items_edges : Program → Node → Callees → Places → Name → Bool → ℕ → ℕ → List Item → List Edge
items_edges program node callees places prefix asserted next k [] = []
items_edges program node callees places prefix asserted next k (item ∷ items) =
    item_edges program node callees places prefix asserted next k item
    ++ items_edges program node callees places prefix asserted
    (next + item_size program node callees item) (next_assertion k item) items

-- ---- assertions

-- the roots of the assertions of instances that begin at a place
abbrev pub instance_asserts : Callees → ℕ → List Name → List ℕ
instance_asserts callees start [] = []
instance_asserts callees start (g ∷ nodes) =
    callees.asserts g start ++ instance_asserts callees (start + callees.size g) nodes

-- an assertion's root stands before those of its calls
abbrev pub root_asserts : ℕ → Item → List ℕ
root_asserts next (Assert at e) = next ∷ []
root_asserts next (Equation at left e) = []

abbrev pub item_asserts : Program → Node → Callees → ℕ → Item → List ℕ
item_asserts program node callees next item =
    root_asserts next item
    ++ instance_asserts callees (inner_place program node next item) (nodes_called (right_of item))

abbrev pub items_asserts : Program → Node → Callees → ℕ → List Item → List ℕ
items_asserts program node callees next [] = []
items_asserts program node callees next (item ∷ items) =
    item_asserts program node callees next item
    ++ items_asserts program node callees (next + item_size program node callees item) items

-- ---- a node over the nodes that it calls

abbrev pub size_over : Program → Callees → Option Node → ℕ
size_over program callees None = 0
size_over program callees (Some node) = items_size program node callees node.items

abbrev pub results_over : Program → Callees → Option Node → ℕ → List ℕ
results_over program callees None start = []
results_over program callees (Some node) start =
    map (place_of (item_places program node callees start node.items)) (names node.outputs)

abbrev pub asserts_over : Program → Callees → Option Node → ℕ → List ℕ
asserts_over program callees None start = []
asserts_over program callees (Some node) start = items_asserts program node callees start node.items

abbrev pub edges_over : Program → Callees → Option Node → List ℕ → Name → Bool → ℕ → List Edge
edges_over program callees None args prefix asserted start = []
edges_over program callees (Some node) args prefix asserted start =
    items_edges program node callees (places_over program node callees args start) prefix asserted start 1 node.items
