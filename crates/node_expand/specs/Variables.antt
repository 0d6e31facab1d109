-- The variables that code keeps of a node.
use Rattle.std.specs.Prelude.{List, [], map, Option}
use Rattle.op_network.specs.declared.value.Ty.{Ty}
use Rattle.lus_types.specs.Names.{Name}
use Rattle.lus_types.specs.Programs as program
use Rattle.lus_types.specs.Programs.{Node, type_in}
use Rattle.node_expand.specs.declared.header.Variable.{Variable}

abbrev pub variable_seen : Variable → program.Variable
variable_seen v = record { name = v.name; ty = v.ty }

-- a node with these variables, of which nothing else is known
abbrev pub node_with : List Variable → List Variable → List Variable → Node
node_with inputs outputs locals = record {
  name = [];
  inputs = map variable_seen inputs;
  outputs = map variable_seen outputs;
  locals = map variable_seen locals;
  items = [];
}

-- the type of the variable of a name among these, if one has it
abbrev pub type_among : List Variable → List Variable → List Variable → Name → Option Ty
type_among inputs outputs locals x = type_in (node_with inputs outputs locals) x

-- variables with their types, as entries of a table
abbrev pub typed_names : List Variable → List (Name × Ty)
typed_names vs = map (λ (v : Variable). (v.name, v.ty)) vs

-- their names
abbrev pub names_of : List Variable → List Name
names_of vs = map (λ (v : Variable). v.name) vs
