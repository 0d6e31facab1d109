-- What a type check answers: the first failing occurrence of the walk, or that there is none.
use Rattle.std.specs.Prelude.{slice_get, ◌≡◌, ℕ, suc, ◌≤◌, ◌<◌, Bool, true, false, List, [], ◌∷◌, ◌++◌, take, Option, Some, None}
use Rattle.lus_syntax.specs.declared.ast.Ast.{Ast}
use Rattle.lus_syntax.specs.declared.ast.Decl.{Decl}
use Rattle.lus_syntax.specs.declared.ast.Decl.TheVariants.{TypeDecl, ConstDecl, NodeDecl}
use Rattle.lus_syntax.specs.declared.ast.Group.{Group}
use Rattle.lus_syntax.specs.declared.ast.Item.{Item}
use Rattle.lus_syntax.specs.declared.ast.Spot.{Spot}
use Rattle.lus_types.specs.declared.fault.TypeKind.{TypeKind}
use Rattle.lus_types.specs.declared.types.Meaning.TheVariants.{Enumeration, Node}
use Rattle.op_network.specs.declared.value.Ty.{Ty}
use Rattle.lus_types.specs.declared.fault.TypeFault.{TypeFault}
use Rattle.lus_types.specs.declared.fault.TypeFault.TheVariants.{Bad, Memory}
use Rattle.lus_types.specs.Calls.{In}
use Rattle.lus_types.specs.Constants.{constants, constant_scope}
use Rattle.lus_types.specs.Kinds.{Fails, rank}
use Rattle.lus_types.specs.Names.{Name, Globals, globals, declared_names, next_type, defined_in}
use Rattle.lus_types.specs.declared.expressions.scope.Signature.{Signature}
use Rattle.lus_types.specs.Occurrences.{Scope, Variables, Thing, Occurrence, GlobalName, TextEnd, is_node_decl}
use Rattle.lus_types.specs.Signatures.{signatures, variables}
use Rattle.lus_types.specs.Walk.{occurs, constant, enumerator_names, groups, items}

-- what a program's names mean at a width
pub record Tables : Type 0 where
  pub width : ℕ
  pub globals : Globals
  pub signatures : List (Option Signature)
  pub constants : List (Option Ty)

abbrev pub tables : ℕ → List Decl → Tables
tables width decls =
    let g = globals decls in
    let s = signatures g decls in
    record { width = width; globals = g; signatures = s; constants = constants width g s decls }

-- the expressions in a node may use all constants
abbrev pub node_scope : Tables → ℕ → Variables → Scope
node_scope t place vs = record {
  width = t.width;
  globals = t.globals;
  signatures = t.signatures;
  constants = t.constants;
  place = place;
  variables = Some vs;
}

-- the type of a number: its name and its enumerators
abbrev pub enumeration : Globals → ℕ → Spot → List Spot → List Occurrence
enumeration globals ty name choices =
    occurs name.at (GlobalName globals (Enumeration ty) name.text) ∷ enumerator_names globals ty 0 choices

-- the header of a node, in the order of the text
abbrev pub header : Globals → List Group → List Group → List Group → List Item → List Occurrence
header globals inputs outputs locals its =
    groups globals true (defined_in its) [] inputs
    ++ (groups globals false (defined_in its) (declared_names inputs) outputs
    ++ groups globals false (defined_in its) (declared_names inputs ++ declared_names outputs) locals)

-- the items of the node at a place, with its variables
abbrev pub body : Tables → ℕ → Variables → List Item → List Occurrence
body t place vs its = items (node_scope t place vs) vs [] its

-- a node: its name, its header and its items
abbrev pub node : Tables → ℕ → Spot → List Group → List Group → List Group → List Item → List Occurrence
node t place name inputs outputs locals its =
    occurs name.at (GlobalName t.globals (Node place) name.text)
    ∷ (header t.globals inputs outputs locals its ++ body t place (variables t.globals its inputs outputs locals) its)

-- the occurrences of the declaration at a place, behind so many types
abbrev pub declaration : Tables → ℕ → ℕ → Decl → List Occurrence
declaration t place ty (TypeDecl at name choices) = enumeration t.globals ty name choices
declaration t place ty (ConstDecl at name type value) =
    constant (constant_scope t.width t.globals t.signatures (take place t.constants) place) at name type value
declaration t place ty (NodeDecl at name inputs outputs locals its) = node t place name inputs outputs locals its

abbrev pub declarations : Tables → ℕ → ℕ → List Decl → List Occurrence
declarations t place ty [] = []
declarations t place ty (decl ∷ decls) =
    declaration t place ty decl ++ declarations t (suc place) (next_type ty decl) decls

-- the whole walk: the declarations in the order of the text, and the end of the text
abbrev pub walk : Ast → ℕ → Option Name → List Occurrence
walk ast width main =
    declarations (tables width ast.decls) 0 0 ast.decls ++ occurs ast.length (TextEnd ast.decls main) ∷ []

abbrev pub IsFine : List Decl → Occurrence → Type 0
IsFine decls o = (kind : TypeKind) → Fails decls kind o.thing → ⊥

-- the first failing occurrence of a walk, and its first kind
pub record IsFirstFault (decls : List Decl) (whole : List Occurrence) (kind : TypeKind) (at : ℕ) : Type 0 where
  pub before : List Occurrence
  pub thing : Thing
  pub after : List Occurrence
  pub walked : whole ≡ before ++ occurs at thing ∷ after
  pub fine : (o : Occurrence) → In o before → IsFine decls o
  pub fails : Fails decls kind thing
  pub first : (other : TypeKind) → Fails decls other thing → rank kind ≤ rank other

-- no occurrence fails
abbrev pub IsWellTyped : Ast → ℕ → Option Name → Type 0
IsWellTyped ast width main = (o : Occurrence) → In o (walk ast width main) → IsFine ast.decls o

-- the first fault of a program
abbrev pub IsFaultOf : Ast → ℕ → Option Name → TypeKind → ℕ → Type 0
IsFaultOf ast width main kind at = IsFirstFault ast.decls (walk ast width main) kind at

abbrev pub is_node_in : Option Decl → Bool
is_node_in None = false
is_node_in (Some decl) = is_node_decl decl

-- a node is declared at the place
abbrev pub is_node_place : List Decl → ℕ → Bool
is_node_place decls place = is_node_in (slice_get decls place)

-- the last node of the text: one is declared at the place, and none later
pub record IsLastNode (decls : List Decl) (place : ℕ) : Type 0 where
  pub node : is_node_place decls place ≡ true
  pub last : (later : ℕ) → place < later → is_node_place decls later ≡ false

-- the main node: the one named, or the last of the text
abbrev pub IsMain : List Decl → Option Name → ℕ → Type 0
IsMain decls (Some main) place = globals decls main ≡ Some (Node place)
IsMain decls None place = IsLastNode decls place

-- a program has one first fault at most
abbrev pub HasOneFault : Ast → ℕ → Option Name → Type 0
HasOneFault ast width main =
    (k l : TypeKind) (at other : ℕ) → IsFaultOf ast width main k at → IsFaultOf ast width main l other
    → (k ≡ l) × (at ≡ other)

-- a program with a first fault isn't well typed
abbrev pub IsNeverBoth : Ast → ℕ → Option Name → Type 0
IsNeverBoth ast width main = (k : TypeKind) (at : ℕ) → IsFaultOf ast width main k at → IsWellTyped ast width main → ⊥

-- what a fault says: which occurrence of the program is the first that fails, and its first kind
abbrev pub IsRefusal : Ast → ℕ → Option Name → TypeFault → Type 0
IsRefusal ast width main (Bad kind at) = IsFaultOf ast width main kind at
IsRefusal ast width main Memory = Unit {0}

-- the program is well typed, and this is the place of its main node
abbrev pub IsAccepted : Ast → ℕ → Option Name → ℕ → Type 0
IsAccepted ast width main place = IsWellTyped ast width main × IsMain ast.decls main place

-- no occurrence of the declarations fails
abbrev pub IsFineProgram : Ast → ℕ → Type 0
IsFineProgram ast width =
    (o : Occurrence) → In o (declarations (tables width ast.decls) 0 0 ast.decls) → IsFine ast.decls o
