-- What names mean in a node.
use Rattle.std.specs.Prelude.{Option, Some, None}
use Rattle.lus_types.specs.declared.types.Constant.{Constant}
use Rattle.op_network.specs.declared.value.Ty.{Ty}
use Rattle.lus_types.specs.Names.{Name}
use Rattle.lus_types.specs.Programs.{Node, Program, constant_named, type_in}

-- a variable hides what its name means outside the node
abbrev pub unless_variable : Option Ty → Option Constant → Option Constant
unless_variable (Some ty) outer = None
unless_variable None outer = outer

-- the constant or enumerator that a name means in a node, if it means one there
abbrev pub constant_in : Program → Node → Name → Option Constant
constant_in program node x = unless_variable (type_in node x) (constant_named program x)
