-- The first fault as a function of the walk, over a test that tells which calls are recursive.
use Rattle.std.specs.Prelude.{◌≡◌, ◌↔◌, ℕ, Bool, true, false, ◌&&◌, cond, List, [], ◌∷◌, Option, Some, None, Result, Ok, Err, length, slice_get}
use Rattle.lus_syntax.specs.declared.ast.Decl.{Decl}
use Rattle.lus_types.specs.declared.fault.TypeFault.{TypeFault}
use Rattle.lus_types.specs.declared.fault.TypeFault.TheVariants.{Bad, Memory}
use Rattle.lus_types.specs.declared.fault.TypeKind.{TypeKind}
use Rattle.lus_types.specs.declared.fault.TypeKind.TheVariants.{Clocked, Unsupported, Duplicate, Unknown, NotANode, Arity, Mismatch, LiteralRange, Undefined, DefinedTwice, DefinesInput, RecursiveNode, NoMain}
use Rattle.lus_types.specs.declared.types.Meaning.{Meaning}
use Rattle.lus_types.specs.declared.types.Meaning.TheVariants.{Enumeration, Constant, Node, Enumerator}
use Rattle.lus_types.specs.declared.expressions.scope.Signature.{Signature}
use Rattle.lus_types.specs.declared.expressions.scope.Variable.{Variable}
use Rattle.lus_types.specs.declared.types.Position.{Position}
use Rattle.op_network.specs.declared.value.Ty.{Ty}
use Rattle.lus_types.specs.Calls.{Calls, IsRecursion}
use Rattle.lus_types.specs.Kinds.{is_clocked, is_unsupported, is_duplicate, is_unknown, is_not_a_node, is_arity, is_mismatch, is_out_of_range, is_undefined, is_defined_twice, defines_input, is_no_main, wrong_numbers, wrong_arguments, is_an_input, wrong_number, wrong_right}
use Rattle.lus_types.specs.Types.{differ}
use Rattle.op_network.specs.declared.value.Ty.TheVariants.{Truth as Yes}
use Rattle.lus_types.specs.Occurrences.{Scope, Thing, Occurrence, Call, flat, in_constant, is_missing}

-- which callee, called by which caller, is recursive
abbrev pub Recursions : Type 0
Recursions = ℕ → ℕ → Bool

-- the test tells which calls of the program are recursive
abbrev pub TellsCycles : List Decl → Recursions → Type 0
TellsCycles decls recursive =
    (caller callee : ℕ) → Calls decls caller callee
    → (recursive callee caller ≡ true) ↔ IsRecursion decls callee caller

abbrev pub is_recursion_of : Recursions → Option Meaning → ℕ → Bool
is_recursion_of recursive (Some (Node callee)) caller = recursive callee caller
is_recursion_of recursive (Some (Enumerator ty i)) caller = false
is_recursion_of recursive (Some (Constant place)) caller = false
is_recursion_of recursive (Some (Enumeration ty)) caller = false
is_recursion_of recursive None caller = false

abbrev pub is_recursive : Recursions → Thing → Bool
is_recursive recursive (Call scope position f args) = cond (in_constant scope) false (is_recursion_of recursive (scope.globals f) scope.place)
is_recursive recursive _ = false

-- whether something fails in a way
abbrev pub fails : Recursions → Thing → TypeKind → Bool
fails recursive thing Clocked = is_clocked thing
fails recursive thing Unsupported = is_unsupported thing
fails recursive thing Duplicate = is_duplicate thing
fails recursive thing Unknown = is_unknown thing
fails recursive thing NotANode = is_not_a_node thing
fails recursive thing Arity = is_arity thing
fails recursive thing Mismatch = is_mismatch thing
fails recursive thing LiteralRange = is_out_of_range thing
fails recursive thing Undefined = is_undefined thing
fails recursive thing DefinedTwice = is_defined_twice thing
fails recursive thing DefinesInput = defines_input thing
fails recursive thing RecursiveNode = is_recursive recursive thing
fails recursive thing NoMain = is_no_main thing

-- the kinds in the order in which they count
abbrev pub kinds : List TypeKind
kinds = Clocked ∷ Unsupported ∷ Duplicate ∷ Unknown ∷ NotANode ∷ Arity ∷ Mismatch ∷ LiteralRange ∷ Undefined ∷ DefinedTwice ∷ DefinesInput ∷ RecursiveNode ∷ NoMain ∷ []

abbrev pub first_passing : (TypeKind → Bool) → List TypeKind → Option TypeKind
first_passing test [] = None
first_passing test (kind ∷ more) = cond (test kind) (Some kind) (first_passing test more)

-- the first kind in which something fails
abbrev pub kind_of : Recursions → Thing → Option TypeKind
kind_of recursive thing = first_passing (fails recursive thing) kinds

-- a kind at a place
abbrev pub fault_at : ℕ → Option TypeKind → Option TypeFault
fault_at at None = None
fault_at at (Some kind) = Some (Bad kind at)

abbrev pub or_else : Option TypeFault → Option TypeFault → Option TypeFault
or_else None later = later
or_else (Some fault) later = Some fault

-- the first fault of a list of occurrences
abbrev pub fault_in : Recursions → List Occurrence → Option TypeFault
fault_in recursive [] = None
fault_in recursive (o ∷ os) = or_else (fault_at o.at (kind_of recursive o.thing)) (fault_in recursive os)

-- An answer where this is the first fault, if there is one: it comes exactly where there is none, or
-- memory is short.
abbrev pub Answers : {A : Type 0} → Option TypeFault → Result A TypeFault → (A → Type 0) → Type 0
Answers fault (Ok a) P = P a × (fault ≡ None)
Answers fault (Err (Bad kind at)) P = fault ≡ Some (Bad kind at)
Answers fault (Err Memory) P = Unit {0}

-- an operator that takes its operands or not, where all of them have types
abbrev pub mismatch : Bool → Option Ty → Option TypeKind
mismatch typed result = cond (typed && is_missing result) (Some Mismatch) None

abbrev pub unless_in_constant : Scope → Option TypeKind → Option TypeKind
unless_in_constant scope otherwise = cond (in_constant scope) (Some Unsupported) otherwise

-- a call with the wrong numbers, or else with wrong arguments
abbrev pub signature_kind : Position → List (Option Ty) → Option Signature → Option TypeKind
signature_kind position args signature =
    cond (wrong_numbers position (length args) signature) (Some Arity) (cond (wrong_arguments args signature) (Some Mismatch) None)

abbrev pub recursion_kind : Bool → Option TypeKind
recursion_kind recursive = cond recursive (Some RecursiveNode) None

abbrev pub kind_or : Option TypeKind → Option TypeKind → Option TypeKind
kind_or None later = later
kind_or (Some kind) later = Some kind

abbrev pub node_call_kind : Recursions → Scope → Position → ℕ → List (Option Ty) → Option TypeKind
node_call_kind recursive scope position callee args =
    kind_or (signature_kind position args (flat (slice_get scope.signatures callee))) (recursion_kind (recursive callee scope.place))

-- a left name whose variable this is, and which stands on a left side before or not
abbrev pub left_kind : Option Variable → Bool → Option TypeKind
left_kind variable defined =
    cond (is_missing variable) (Some Unknown) (cond defined (Some DefinedTwice) (cond (is_an_input variable) (Some DefinesInput) None))

abbrev pub equation_kind : List (Option Ty) → Option (List (Option Ty)) → Option TypeKind
equation_kind left right = cond (wrong_number (length left) right) (Some Arity) (cond (wrong_right left right) (Some Mismatch) None)

abbrev pub assertion_kind : Option Ty → Option TypeKind
assertion_kind ty = cond (differ ty (Some Yes)) (Some Mismatch) None

-- a declared variable: new to the node or not, an input or not, with an equation or not
abbrev pub variable_kind : Bool → Bool → Bool → Option TypeKind
variable_kind fresh is_input defined = cond fresh (cond is_input None (cond defined None (Some Undefined))) (Some Duplicate)

abbrev pub constant_kind : Option (Option Ty) → Option (Option Ty) → Option TypeKind
constant_kind ty None = Some Unsupported
constant_kind None (Some value) = None
constant_kind (Some ty) (Some value) = cond (differ ty value) (Some Mismatch) None
