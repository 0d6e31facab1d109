-- What code adds to the edges of a network: an item's, an instance's.
use Rattle.std.specs.Prelude.{◌≡◌, ℕ, ◌+◌, Bool, if◌then◌else◌, ◌||◌, List, [], ◌++◌, length, map}
use Rattle.lus_syntax.specs.declared.ast.Item.{Item}
use Rattle.op_network.specs.declared.edge.Edge.{Edge}
use Rattle.lus_types.specs.Names.{Name, Globals}
use Rattle.lus_types.specs.Programs.{Node, Program, Variable}
use Rattle.node_expand.specs.declared.draft.Draft.{Draft}
use Rattle.node_expand.specs.declared.instances.Callee.{Callee}
use Rattle.node_expand.specs.declared.here.Here.{Here}
use Rattle.node_expand.specs.declared.parts.Call.{Call}
use Rattle.node_expand.specs.declared.parts.Gate.{Gate}
use Rattle.node_expand.specs.Counts.{has_edge, inner_place, item_size, items_size, right_of}
use Rattle.node_expand.specs.Fragments.{Callees, Places, edge, nodes_of, size_of_all}
use Rattle.node_expand.specs.Headers.{node_seen}
use Rattle.node_expand.specs.Instances.{first_name, id_edges, instance_asserts, instance_edges, is_assertion, item_asserts, item_edges, item_fragment, items_asserts, items_edges, own_edges, root_asserts, roots_of}
use Rattle.node_expand.specs.Outlines.{outline}

-- the variables of a node, of which nothing else is known
abbrev pub bare : Node → Node
bare node = record { name = []; inputs = node.inputs; outputs = node.outputs; locals = node.locals; items = [] }

-- the code's node is the program's
pub record IsCallee (program : Program) (g : Globals) (node : Node) (callee : Callee) : Type 0 where
  pub header : node_seen callee.header.now ≡ bare node
  pub items : callee.items.now ≡ node.items
  pub outlines : callee.outlines.now ≡ map (outline program g (bare node)) node.items

-- the roots and the other edges of an item, without those of instances
abbrev pub edges_here : Name → Name → Bool → Bool → List Variable → List ℕ → List Gate → List Edge
edges_here prefix root asserted is_root roots values gates =
    (if is_root then [] else id_edges prefix asserted roots values) ++ own_edges root asserted (if is_root then 0 else 1) gates

-- the roots and the other edges of an item are added, without those of its instances, whose calls are left to be made
-- under the root
pub record AddsEdges (program : Program) (node : Node) (callees : Callees) (places : Places) (prefix : Name) (asserted : Bool) (k : ℕ) (item : Item) (old new : Draft) (here : Here) : Type 0 where
  pub edges : let right = item_fragment program node callees places (length old.edges) item in
      new.edges ≡ old.edges ++ edges_here prefix here.root (asserted || is_assertion item) (has_edge program node (right_of item)) (roots_of program node k item) right.values right.own
  pub asserts : new.asserts ≡ old.asserts ++ map edge (root_asserts (length old.edges) item)
  pub size : length new.edges ≡ inner_place program node (length old.edges) item
  pub root : here.root ≡ prefix ++ first_name (roots_of program node k item)
  pub calls : here.calls ≡ (item_fragment program node callees places (length old.edges) item).calls

-- an instance of a node stands behind the edges that were there
pub record AddsInstance (callees : Callees) (f : Name) (args : List ℕ) (prefix : Name) (asserted : Bool) (old new : Draft) : Type 0 where
  pub edges : new.edges ≡ old.edges ++ callees.edges f args prefix asserted (length old.edges)
  pub asserts : new.asserts ≡ old.asserts ++ map edge (callees.asserts f (length old.edges))
  pub size : length new.edges ≡ length old.edges + callees.size f

-- and the instances of calls under a root, from the j-th on
pub record AddsInstances (callees : Callees) (root : Name) (asserted : Bool) (j : ℕ) (calls : List Call) (old new : Draft) : Type 0 where
  pub edges : new.edges ≡ old.edges ++ instance_edges callees root asserted j (length old.edges) calls
  pub asserts : new.asserts ≡ old.asserts ++ map edge (instance_asserts callees (length old.edges) (nodes_of calls))
  pub size : length new.edges ≡ length old.edges + size_of_all callees (nodes_of calls)

-- and an item with its instances
pub record AddsItem (program : Program) (node : Node) (callees : Callees) (places : Places) (prefix : Name) (asserted : Bool) (k : ℕ) (item : Item) (old new : Draft) : Type 0 where
  pub edges : new.edges ≡ old.edges ++ item_edges program node callees places prefix asserted (length old.edges) k item
  pub asserts : new.asserts ≡ old.asserts ++ map edge (item_asserts program node callees (length old.edges) item)
  pub size : length new.edges ≡ length old.edges + item_size program node callees item

-- and items
pub record AddsItems (program : Program) (node : Node) (callees : Callees) (places : Places) (prefix : Name) (asserted : Bool) (k : ℕ) (items : List Item) (old new : Draft) : Type 0 where
  pub edges : new.edges ≡ old.edges ++ items_edges program node callees places prefix asserted (length old.edges) k items
  pub asserts : new.asserts ≡ old.asserts ++ map edge (items_asserts program node callees (length old.edges) items)
  pub size : length new.edges ≡ length old.edges + items_size program node callees items
