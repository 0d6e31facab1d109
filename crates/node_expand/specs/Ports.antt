-- The inputs and the outputs of a network are those of its main node.
use Rattle.std.specs.Prelude.{◌≡◌, List, Option, Some, slice_get}
use Rattle.std.specs.List.{AllZip}
use Rattle.std.specs.Option.{option_map}
use Rattle.op_network.specs.declared.edge.Edge.{Edge}
use Rattle.op_network.specs.declared.edge.EdgeId.{EdgeId}
use Rattle.op_network.specs.declared.edge.Parts.{Parts}
use Rattle.op_network.specs.Valid.{type_of}
use Rattle.lus_types.specs.declared.typed.Typed.{Typed}
use Rattle.lus_types.specs.Names.{Name}
use Rattle.lus_types.specs.Programs.{Node, Variable}
use Rattle.node_expand.specs.Law.{main_name, program_in}
use Rattle.node_expand.specs.Network.{network}

-- the name of an edge
abbrev pub name_of : List Edge → EdgeId → Option Name
name_of edges e = option_map (λ (edge : Edge). edge.name) (slice_get edges e.0)

-- the edge has the name and the type of the variable
pub record IsEdgeOf (edges : List Edge) (e : EdgeId) (v : Variable) : Type 0 where
  pub name : name_of edges e ≡ Some v.name
  pub ty : type_of edges e ≡ Some v.ty

-- the inputs and the outputs of the network are the edges of those of the node, in order
pub record HasPorts (parts : Parts) (node : Node) : Type 0 where
  pub inputs : AllZip (IsEdgeOf parts.edges) parts.inputs node.inputs
  pub outputs : AllZip (IsEdgeOf parts.edges) parts.outputs node.outputs

-- those of the network of a typed program are those of its main node
abbrev pub HasMainPorts : Typed → Type 0
HasMainPorts typed =
    (main : Node) → (program_in typed).node (main_name typed) ≡ Some main
    → HasPorts (network (program_in typed) (main_name typed)) main
