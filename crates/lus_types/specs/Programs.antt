-- A program as it is expanded: its types, its constants, and its nodes with the types of their variables.
use Rattle.std.specs.Prelude.{ℕ, List, [], ◌∷◌, ◌++◌, map, Option, Some, None, slice_get}
use Rattle.std.specs.List.{flat_map}
use Rattle.lus_syntax.specs.declared.ast.Decl.{Decl}
use Rattle.lus_syntax.specs.declared.ast.Decl.TheVariants.{TypeDecl, ConstDecl, NodeDecl}
use Rattle.lus_syntax.specs.declared.ast.Group.{Group}
use Rattle.lus_syntax.specs.declared.ast.Item.{Item}
use Rattle.lus_syntax.specs.declared.ast.Spot.{Spot}
use Rattle.lus_types.specs.declared.types.Meaning.{Meaning}
use Rattle.lus_types.specs.declared.types.Meaning.TheVariants as means
use Rattle.op_network.specs.declared.value.Ty.{Ty}
use Rattle.op_network.specs.declared.value.Ty.TheVariants.{Truth, Choice}
use Rattle.op_network.specs.declared.value.Value.{Value}
use Rattle.lus_types.specs.declared.types.Constant.{Constant}
use Rattle.lus_types.specs.Constants.{constants}
use Rattle.lus_types.specs.Names.{Name, Globals, globals, entry_of, spot_names}
use Rattle.lus_types.specs.Occurrences.{flat}
use Rattle.lus_types.specs.Signatures.{signatures}
use Rattle.lus_types.specs.Types.{type_named}
use Rattle.lus_types.specs.Values.{constant_values, value_meant}

-- a variable with its type
pub record Variable : Type 0 where
  pub name : Name
  pub ty : Ty

-- a node: its variables in the order of the text, and its items
pub record Node : Type 0 where
  pub name : Name
  pub inputs : List Variable
  pub outputs : List Variable
  pub locals : List Variable
  pub items : List Item

-- a type: its name and its enumerators
pub record Enumeration : Type 0 where
  pub name : Name
  pub names : List Name

-- A program: its types in the order of the text, by which the types of values are numbered; the type and the value of the
-- constant or enumerator that a name means, where it means one; and the node that a name means.
pub record Program : Type 0 where
  pub width : ℕ
  pub types : List Enumeration
  pub constant : Name → Option Ty
  pub value : Name → Value
  pub node : Name → Option Node

abbrev pub variables : Node → List Variable
variables node = node.inputs ++ (node.outputs ++ node.locals)

abbrev pub names : List Variable → List Name
names vs = map (λ (v : Variable). v.name) vs

abbrev pub types : List Variable → List Ty
types vs = map (λ (v : Variable). v.ty) vs

-- the type of a variable of a node, if it has one of this name
abbrev pub type_in : Node → Name → Option Ty
type_in node x = entry_of (map (λ (v : Variable). (v.name, v.ty)) (variables node)) x

abbrev pub or_outer : Option Ty → Option Ty → Option Ty
or_outer None outer = outer
or_outer (Some ty) outer = Some ty

-- the type of what a name means in a node: its variables hide constants and enumerators
abbrev pub type_of_name : Program → Node → Name → Option Ty
type_of_name program node x = or_outer (type_in node x) (program.constant x)

-- ---- the program of a tree

-- a type that a word names, or `bool` where it names none, which is so in no typed program
abbrev pub or_truth : Option Ty → Ty
or_truth None = Truth
or_truth (Some ty) = ty

abbrev pub variables_of_group : Ty → List Spot → List Variable
variables_of_group ty spots = map (λ (s : Spot). record { name = s.text; ty = ty }) spots

abbrev pub variables_of : Globals → List Group → List Variable
variables_of g groups = flat_map (λ (group : Group). variables_of_group (or_truth (type_named g group.ty.text)) group.names) groups

abbrev pub enumerations : List Decl → List Enumeration
enumerations [] = []
enumerations (TypeDecl at name choices ∷ decls) = record { name = name.text; names = spot_names choices } ∷ enumerations decls
enumerations (ConstDecl at name ty value ∷ decls) = enumerations decls
enumerations (NodeDecl at name inputs outputs locals items ∷ decls) = enumerations decls

abbrev pub constant_meant : List (Option Ty) → Option Meaning → Option Ty
constant_meant known (Some (means.Enumerator ty i)) = Some (Choice ty)
constant_meant known (Some (means.Constant place)) = flat (slice_get known place)
constant_meant known (Some (means.Enumeration ty)) = None
constant_meant known (Some (means.Node place)) = None
constant_meant known None = None

abbrev pub node_declared : Globals → Option Decl → Option Node
node_declared g (Some (NodeDecl at name inputs outputs locals items)) =
    Some (record { name = name.text; inputs = variables_of g inputs; outputs = variables_of g outputs; locals = variables_of g locals; items = items })
node_declared g (Some (TypeDecl at name choices)) = None
node_declared g (Some (ConstDecl at name ty value)) = None
node_declared g None = None

abbrev pub place_meant : Option Meaning → Option ℕ
place_meant (Some (means.Node place)) = Some place
place_meant (Some (means.Enumerator ty i)) = None
place_meant (Some (means.Constant place)) = None
place_meant (Some (means.Enumeration ty)) = None
place_meant None = None

-- The node of the declaration at a place.
abbrev pub node_at_place : Globals → List Decl → Option ℕ → Option Node
node_at_place g decls None = None
node_at_place g decls (Some place) = node_declared g (slice_get decls place)

abbrev pub node_meant : Globals → List Decl → Option Meaning → Option Node
node_meant g decls m = node_at_place g decls (place_meant m)

abbrev pub program_of : List Decl → ℕ → Program
program_of decls width =
    let g = globals decls in
    record {
      width = width;
      types = enumerations decls;
      constant = λ x. constant_meant (constants width g (signatures g decls) decls) (g x);
      value = λ x. value_meant (constant_values width decls) (g x);
      node = λ x. node_meant g decls (g x);
    }

-- the node that is declared at a place, if one is
abbrev pub node_at : List Decl → ℕ → Option Node
node_at decls place = node_declared (globals decls) (slice_get decls place)

-- ---- what names mean

abbrev pub constant_with : Option Ty → Value → Option Constant
constant_with None v = None
constant_with (Some ty) v = Some (record { ty = ty; value = v })

-- the constant or enumerator that a name means, with its type and its value
abbrev pub constant_named : Program → Name → Option Constant
constant_named program x = constant_with (program.constant x) (program.value x)
