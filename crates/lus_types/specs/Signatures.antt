-- The variables of a node with their types, and the signatures of nodes.
use Rattle.std.specs.Prelude.{Bool, true, false, ◌||◌, cond, List, [], ◌∷◌, ◌++◌, map, Option, Some, None}
use Rattle.lus_syntax.specs.declared.ast.Decl.{Decl}
use Rattle.lus_syntax.specs.declared.ast.Decl.TheVariants.{TypeDecl, ConstDecl, NodeDecl}
use Rattle.lus_syntax.specs.declared.ast.Group.{Group}
use Rattle.lus_syntax.specs.declared.ast.Item.{Item}
use Rattle.lus_syntax.specs.declared.ast.Spot.{Spot}
use Rattle.op_network.specs.declared.value.Ty.{Ty}
use Rattle.lus_types.specs.Kinds.{is_duplicate, is_undefined}
use Rattle.lus_types.specs.Names.{Name, Globals, entry_of, spot_names, declared_names, Defined, defined_in}
use Rattle.lus_types.specs.declared.expressions.scope.Signature.{Signature}
use Rattle.lus_types.specs.declared.expressions.scope.Variable.{Variable}
use Rattle.lus_types.specs.Occurrences.{Variables, Thing}
use Rattle.lus_types.specs.Types.{type_named}
use Rattle.lus_types.specs.Walk.{variable_name}

abbrev pub unless_clocked : Option Spot → Option Ty → Option Ty
unless_clocked None ty = ty
unless_clocked (Some clock) ty = None

-- A variable's type. It has none where its name, the type or the clock of its group fails.
abbrev pub variable_type : Globals → Thing → Option Spot → Spot → Option Ty
variable_type globals name clock ty = cond (is_duplicate name || is_undefined name) None (unless_clocked clock (type_named globals ty.text))

-- declared names with what they mean, in the order of the text
abbrev pub Row : Type 0
Row = List (Name × Variable)

-- a variable of a group with this clock and type
abbrev pub variable : Globals → Bool → Defined → Option Spot → Spot → List Name → Spot → Name × Variable
variable globals is_input defined clock ty before name =
    (name.text, record { ty = variable_type globals (variable_name is_input defined before name.text) clock ty; is_input = is_input })

abbrev pub group_variables : Globals → Bool → Defined → Option Spot → Spot → List Name → List Spot → Row
group_variables globals is_input defined clock ty before [] = []
group_variables globals is_input defined clock ty before (name ∷ names) =
    variable globals is_input defined clock ty before name ∷ group_variables globals is_input defined clock ty (before ++ name.text ∷ []) names

-- the variables that groups declare, behind these variables of the node, in which those names have equations
abbrev pub variables_in : Globals → Bool → Defined → List Name → List Group → Row
variables_in globals is_input defined before [] = []
variables_in globals is_input defined before (g ∷ gs) =
    group_variables globals is_input defined g.clock g.ty before g.names ++ variables_in globals is_input defined (before ++ spot_names g.names) gs

-- inputs, outputs and locals share one space
abbrev pub inputs_of : Globals → List Item → List Group → Row
inputs_of globals items inputs = variables_in globals true (defined_in items) [] inputs

abbrev pub outputs_of : Globals → List Item → List Group → List Group → Row
outputs_of globals items inputs outputs = variables_in globals false (defined_in items) (declared_names inputs) outputs

abbrev pub locals_of : Globals → List Item → List Group → List Group → List Group → Row
locals_of globals items inputs outputs locals = variables_in globals false (defined_in items) (declared_names inputs ++ declared_names outputs) locals

abbrev pub variables : Globals → List Item → List Group → List Group → List Group → Variables
variables globals items inputs outputs locals x =
    entry_of (inputs_of globals items inputs ++ (outputs_of globals items inputs outputs ++ locals_of globals items inputs outputs locals)) x

abbrev pub types_in : Row → List (Option Ty)
types_in vs = map (λ entry. entry.1.ty) vs

abbrev pub node_signature : Globals → List Item → List Group → List Group → Signature
node_signature globals items inputs outputs = record { params = types_in (inputs_of globals items inputs); results = types_in (outputs_of globals items inputs outputs) }

abbrev pub signature : Globals → Decl → Option Signature
signature globals (TypeDecl at name choices) = None
signature globals (ConstDecl at name ty value) = None
signature globals (NodeDecl at name inputs outputs locals items) = Some (node_signature globals items inputs outputs)

-- the signatures of the nodes, by the places of their declarations
abbrev pub signatures : Globals → List Decl → List (Option Signature)
signatures globals decls = map (signature globals) decls
