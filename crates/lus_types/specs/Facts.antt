-- What a caller of a typed program knows of its text.
use Rattle.std.specs.Prelude.{◌≡◌, ℕ, ◌<◌, ◌≤◌, false, List, ◌++◌, length, All, Option, Some, slice_get}
use Rattle.lus_syntax.specs.declared.ast.Ast.{Ast}
use Rattle.lus_syntax.specs.declared.ast.Decl.{Decl}
use Rattle.lus_syntax.specs.declared.ast.Decl.TheVariants.{ConstDecl, NodeDecl}
use Rattle.lus_syntax.specs.declared.ast.Expr.{Expr}
use Rattle.lus_syntax.specs.declared.ast.Group.{Group}
use Rattle.lus_syntax.specs.declared.ast.Item.{Item}
use Rattle.lus_syntax.specs.declared.ast.Spot.{Spot}
use Rattle.lus_syntax.specs.declared.token.TokenKind.TheVariants as token
use Rattle.lus_syntax.specs.Words.{kind_of}
use Rattle.lus_types.specs.declared.types.Position.{Position}
use Rattle.op_network.specs.declared.limits.TheConstants.{LEAST_WIDTH, MOST_WIDTH, MOST_NAMES}
use Rattle.op_network.specs.declared.value.Ty.{Ty}
use Rattle.op_network.specs.declared.value.Ty.TheVariants.{Truth, Word, Choice}
use Rattle.lus_types.specs.Calls.{In}
use Rattle.lus_types.specs.Kinds.{out_of_range}
use Rattle.lus_types.specs.Names.{Name, Globals, globals as global_names}
use Rattle.lus_types.specs.Occurrences.{Scope, Literal}
use Rattle.lus_types.specs.Programs.{Enumeration, Node, Program, Variable, names, program_of, variables}
use Rattle.lus_types.specs.ProgramTypes.{AreDistinct}
use Rattle.lus_types.specs.Types.{type_named}
use Rattle.lus_types.specs.Typing.{declarations, tables}
use Rattle.lus_types.specs.Walk.{occurs}

-- each literal is within the width: at most 2^(W-1) - 1, or 2^(W-1) under unary `-`
abbrev pub EachLiteralIsInRange : Ast → ℕ → Type 0
EachLiteralIsInRange ast width =
    (at : ℕ) (s : Scope) (p : Position) (n : ℕ)
    → In (occurs at (Literal s p n)) (declarations (tables width ast.decls) 0 0 ast.decls)
    → out_of_range width p n ≡ false

-- each declared constant has a type, and so a value of it
abbrev pub HasConstants : List Decl → ℕ → Type 0
HasConstants decls width =
    (place at : ℕ) (name : Spot) (ty : Option Spot) (value : Option Expr)
    → slice_get decls place ≡ Some (ConstDecl at name ty value)
    → (t : Ty) × ((program_of decls width).constant name.text ≡ Some t)

-- the word of a group of variables names a type
abbrev pub IsTypedGroup : Globals → Group → Type 0
IsTypedGroup globals group = (t : Ty) × (type_named globals group.ty.text ≡ Some t)

-- the type's word of each group of variables of each node names a type
abbrev pub HasTypesOfGroups : List Decl → Type 0
HasTypesOfGroups decls =
    (place at : ℕ) (name : Spot) (inputs outputs locals : List Group) (items : List Item)
    → slice_get decls place ≡ Some (NodeDecl at name inputs outputs locals items)
    → All (IsTypedGroup (global_names decls)) (inputs ++ (outputs ++ locals))

-- all of the bytes are one name, and so no reserved word
abbrev pub IsIdentifier : Name → Type 0
IsIdentifier x = kind_of x ≡ Some token.Name

-- a node has the name that means it; its name and those of its variables are identifiers
pub record IsNamedNode (g : Name) (node : Node) : Type 0 where
  pub meant : node.name ≡ g
  pub own : IsIdentifier node.name
  pub of_variables : All IsIdentifier (names (variables node))

-- the names of types, of their enumerators, of nodes and of variables are identifiers
pub record HasIdentifiers (program : Program) : Type 0 where
  pub of_types : All (λ (e : Enumeration). IsIdentifier e.name) program.types
  pub of_enumerators : All (λ (e : Enumeration). All IsIdentifier e.names) program.types
  pub of_nodes : (g : Name) (node : Node) → program.node g ≡ Some node → IsNamedNode g node

-- each node has an output
abbrev pub HasOutputs : Program → Type 0
HasOutputs program = (g : Name) (node : Node) → program.node g ≡ Some node → 1 ≤ length node.outputs

-- a type has at least one enumerator and not too many, and no enumerator stands twice
pub record HasFewEnumerators (e : Enumeration) : Type 0 where
  pub some : 1 ≤ length e.names
  pub few : length e.names ≤ MOST_NAMES
  pub distinct : AreDistinct e.names

-- each type has enumerators
abbrev pub HasChoices : Program → Type 0
HasChoices program = All HasFewEnumerators program.types

-- a type is `bool`, `int`, or one of the program's
abbrev pub IsTypeOf : Program → Ty → Type 0
IsTypeOf program Truth = Unit {0}
IsTypeOf program Word = Unit {0}
IsTypeOf program (Choice c) = c < length program.types

-- each variable of each node is of a type of the program
abbrev pub HasTypesOfVariables : Program → Type 0
HasTypesOfVariables program =
    (g : Name) (node : Node) → program.node g ≡ Some node
    → All (λ (v : Variable). IsTypeOf program v.ty) (variables node)

-- words are neither too narrow nor too wide
pub record HasWidth (program : Program) : Type 0 where
  pub narrowest : LEAST_WIDTH ≤ program.width
  pub widest : program.width ≤ MOST_WIDTH
