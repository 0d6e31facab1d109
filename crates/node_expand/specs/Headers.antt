-- The declarations of a program as code keeps them, by their places.
use Rattle.std.specs.Prelude.{ℕ, List, [], ◌∷◌, map, Option, Some, None, slice_get}
use Rattle.op_network.specs.declared.value.Ty.{Ty}
use Rattle.op_network.specs.declared.value.Ty.TheVariants.{Truth}
use Rattle.node_expand.specs.declared.header.Variable.{Variable}
use Rattle.lus_syntax.specs.declared.ast.Decl.{Decl}
use Rattle.lus_syntax.specs.declared.ast.Decl.TheVariants.{TypeDecl, ConstDecl, NodeDecl}
use Rattle.lus_syntax.specs.declared.ast.Group.{Group}
use Rattle.lus_syntax.specs.declared.ast.Item.{Item}
use Rattle.lus_types.specs.Names.{Globals}
use Rattle.lus_types.specs.Programs.{Node, variables_of}
use Rattle.node_expand.specs.declared.header.Header.{Header}
use Rattle.node_expand.specs.Variables.{node_with}

-- a node with the variables of a header, of which nothing else is known
abbrev pub node_seen : Header → Node
node_seen h = node_with h.inputs h.outputs h.locals

-- a node with the variables of these groups, of which nothing else is known
abbrev pub head_with : Globals → List Group → List Group → List Group → Node
head_with g inputs outputs locals =
    record { name = []; inputs = variables_of g inputs; outputs = variables_of g outputs; locals = variables_of g locals; items = [] }

-- The variables of a declaration. One that is no node has none.
abbrev pub head_of : Globals → Decl → Node
head_of g (NodeDecl at name inputs outputs locals items) = head_with g inputs outputs locals
head_of g (TypeDecl at name choices) = head_with g [] [] []
head_of g (ConstDecl at name ty value) = head_with g [] [] []

-- its items
abbrev pub items_of : Decl → List Item
items_of (NodeDecl at name inputs outputs locals items) = items
items_of (TypeDecl at name choices) = []
items_of (ConstDecl at name ty value) = []

-- the headers are those of the declarations
abbrev pub heads : Globals → List Decl → List Node
heads g decls = map (head_of g) decls

abbrev pub heads_seen : List Header → List Node
heads_seen headers = map node_seen headers

-- the header at a place, if there is one
abbrev pub header_at : List Header → Option ℕ → Option Header
header_at headers None = None
header_at headers (Some place) = slice_get headers place

-- the type of the first output of a header
abbrev pub first_output : List Variable → Ty
first_output [] = Truth
first_output (v ∷ vs) = v.ty

abbrev pub output_type : Option Header → Ty
output_type None = Truth
output_type (Some h) = first_output h.outputs
