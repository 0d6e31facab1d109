-- What stands at the places of a program that can fail, each with what its faults depend on.
use Rattle.std.specs.Prelude.{ℕ, Bool, true, false, ◌&&◌, List, Option, Some, None, slice_get}
use Rattle.lus_syntax.specs.declared.ast.BinOp.{BinOp}
use Rattle.lus_syntax.specs.declared.ast.Decl.{Decl}
use Rattle.lus_syntax.specs.declared.ast.Decl.TheVariants.{TypeDecl, ConstDecl, NodeDecl}
use Rattle.lus_syntax.specs.declared.ast.UnOp.{UnOp}
use Rattle.lus_types.specs.declared.expressions.scope.Signature.{Signature}
use Rattle.lus_types.specs.declared.expressions.scope.Variable.{Variable}
use Rattle.lus_types.specs.declared.types.Meaning.{Meaning}
use Rattle.lus_types.specs.declared.types.Meaning.TheVariants.{Enumeration, Constant, Node, Enumerator}
use Rattle.lus_types.specs.declared.types.Position.{Position}
use Rattle.op_network.specs.declared.value.Ty.{Ty}
use Rattle.op_network.specs.declared.value.Ty.TheVariants.{Choice}
use Rattle.lus_types.specs.Types.{all_typed}
use Rattle.lus_types.specs.Names.{Name, Globals, Defined}

-- what the names of a node's variables mean
abbrev pub Variables : Type 0
Variables = Name → Option Variable

-- what the names of an expression mean
pub record Scope : Type 0 where
  pub width : ℕ
  pub globals : Globals
  -- by the places of the declarations: the signature of a node
  pub signatures : List (Option Signature)
  -- by the places of the declarations: the type of a constant, of those that may be used here
  pub constants : List (Option Ty)
  -- the place of the declaration that the expression stands in
  pub place : ℕ
  -- the variables of the node; none in the declaration of a constant
  pub variables : Option Variables

abbrev pub is_missing : {A : Type 0} → Option A → Bool
is_missing None = true
is_missing (Some a) = false

abbrev pub in_constant : Scope → Bool
in_constant scope = is_missing scope.variables

-- the type of the constant or enumerator that a global name means: outside, None where it means
-- neither or may not be used; inside, None where the constant has no type
abbrev pub global_value : List (Option Ty) → Option Meaning → Option (Option Ty)
global_value constants (Some (Enumerator ty i)) = Some (Some (Choice ty))
global_value constants (Some (Constant place)) = slice_get constants place
global_value constants (Some (Enumeration ty)) = None
global_value constants (Some (Node place)) = None
global_value constants None = None

-- a variable hides a constant and an enumerator
abbrev pub unless_hidden : Option Variable → Option (Option Ty) → Option (Option Ty)
unless_hidden None outer = outer
unless_hidden (Some v) outer = Some v.ty

abbrev pub variable_named : Option Variables → Name → Option Variable
variable_named None x = None
variable_named (Some variables) x = variables x

-- the type of what a name in an expression means: outside, None where it is unknown
abbrev pub value_named : Scope → Name → Option (Option Ty)
value_named scope x = unless_hidden (variable_named scope.variables x) (global_value scope.constants (scope.globals x))

abbrev pub flat : {A : Type 0} → Option (Option A) → Option A
flat None = None
flat (Some a) = a

abbrev pub signature_meant : List (Option Signature) → Option Meaning → Option Signature
signature_meant signatures (Some (Node place)) = flat (slice_get signatures place)
signature_meant signatures (Some (Enumerator ty i)) = None
signature_meant signatures (Some (Constant place)) = None
signature_meant signatures (Some (Enumeration ty)) = None
signature_meant signatures None = None

-- the signature of the node that a name means; a called name is looked up in the global space alone
abbrev pub signature_named : Scope → Name → Option Signature
signature_named scope f = signature_meant scope.signatures (scope.globals f)

-- the parts of a call all have types: its arguments, and the parameters and results of its node
abbrev pub typed_call : List (Option Ty) → Signature → Bool
typed_call args s = all_typed args && (all_typed s.params && all_typed s.results)

pub data Thing : Type 0 where
  -- the name of a type, constant or node, declared to mean this
  GlobalName : Globals → Meaning → Name → Thing
  -- the i-th enumerator of the type that is declared at a place
  EnumeratorName : Globals → ℕ → ℕ → Name → Thing
  -- the name of an input, behind these variables of the node
  InputName : List Name → Name → Thing
  -- the name of an output or local, behind these variables of the node, in which those names have equations
  DefinedName : List Name → Defined → Name → Thing
  -- a type, where it is used
  TypeName : Globals → Name → Thing
  -- the `when` of a group
  Clock : Thing
  -- a constant: its declared type, where it has one, and the type of its expression, where it has one
  ConstantItself : Option (Option Ty) → Option (Option Ty) → Thing
  -- the expressions; operands come as their types
  NameUse : Scope → Name → Thing
  Literal : Scope → Position → ℕ → Thing
  TruthLiteral : Thing
  Unary : Scope → UnOp → Option Ty → Thing
  Binary : Scope → BinOp → Option Ty → Option Ty → Thing
  Conditional : Option Ty → Option Ty → Option Ty → Thing
  Call : Scope → Position → Name → List (Option Ty) → Thing
  -- a name on a left side, behind these names on left sides of the node
  LeftName : Variables → List Name → Name → Thing
  -- an equation: the types of its left names and of its right side; none where that calls no node
  EquationItself : List (Option Ty) → Option (List (Option Ty)) → Thing
  -- an assertion: the type of its expression
  AssertionItself : Option Ty → Thing
  -- the end of the text, behind these declarations, and the name of the main node, where one is given
  TextEnd : List Decl → Option Name → Thing

pub record Occurrence : Type 0 where
  pub at : ℕ
  pub thing : Thing

abbrev pub is_node_decl : Decl → Bool
is_node_decl (NodeDecl at name inputs outputs locals items) = true
is_node_decl (TypeDecl at name choices) = false
is_node_decl (ConstDecl at name ty value) = false

abbrev pub node_meant : Option Meaning → Option ℕ
node_meant (Some (Node place)) = Some place
node_meant (Some (Enumeration ty)) = None
node_meant (Some (Constant place)) = None
node_meant (Some (Enumerator ty i)) = None
node_meant None = None
