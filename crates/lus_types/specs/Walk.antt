-- The walk over a program: its occurrences, in order.
use Rattle.std.specs.Prelude.{ℕ, suc, Bool, true, false, cond, List, [], ◌∷◌, ◌++◌, map, Option, Some, None}
use Rattle.std.specs.List.{flat_map}
use Rattle.lus_syntax.specs.declared.ast.Expr.{Expr, fold-Expr}
use Rattle.lus_syntax.specs.declared.ast.ExprKind.TheOpen.{ExprKind-F, Name as Named, Number, Truth, One, Two, Cond, Call as Called}
use Rattle.lus_syntax.specs.declared.ast.Group.{Group}
use Rattle.lus_syntax.specs.declared.ast.Item.{Item}
use Rattle.lus_syntax.specs.declared.ast.Item.TheVariants.{Assert, Equation}
use Rattle.lus_syntax.specs.declared.ast.Spot.{Spot}
use Rattle.lus_syntax.specs.declared.ast.UnOp.{UnOp}
use Rattle.lus_syntax.specs.declared.ast.UnOp.TheVariants as one
use Rattle.lus_types.specs.declared.types.Meaning.TheVariants.{Constant}
use Rattle.lus_types.specs.declared.types.Position.{Position}
use Rattle.lus_types.specs.declared.types.Position.TheVariants.{Whole, Negated, Inside}
use Rattle.op_network.specs.declared.value.Ty.{Ty}
use Rattle.op_network.specs.declared.value.Ty.TheVariants.{Truth as Yes, Word}
use Rattle.lus_types.specs.Names.{Name, Globals, Defined, globals, spot_names, left_of}
use Rattle.lus_types.specs.declared.expressions.scope.Signature.{Signature}
use Rattle.lus_types.specs.declared.expressions.scope.Variable.{Variable}
use Rattle.lus_types.specs.Occurrences.{typed_call, Scope, Variables, Thing, Occurrence, flat, value_named, signature_named, GlobalName, EnumeratorName, InputName, DefinedName, TypeName, Clock, ConstantItself, NameUse, Literal, TruthLiteral, Unary, Binary, Conditional, Call, LeftName, EquationItself, AssertionItself}
use Rattle.lus_types.specs.Types.{type_named, unary_of, binary_of, conditional_of}

abbrev pub occurs : ℕ → Thing → Occurrence
occurs at thing = record { at = at; thing = thing }

-- the type of a list that has just one
abbrev pub the_one : List (Option Ty) → Option Ty
the_one [] = None
the_one (ty ∷ []) = ty
the_one (ty ∷ tz ∷ tys) = None

-- no types
abbrev pub untyped : List (Option Ty) → List (Option Ty)
untyped tys = map (λ ty. None) tys

-- A call's results, if it calls a node. They have no types where an argument, a parameter or a
-- result has none.
abbrev pub results_of : Option Signature → List (Option Ty) → Option (List (Option Ty))
results_of None args = None
results_of (Some s) args = Some (cond (typed_call args s) s.results (untyped s.results))

abbrev pub the_one_of : Option (List (Option Ty)) → Option Ty
the_one_of None = None
the_one_of (Some tys) = the_one tys

-- An expression: its type, its types as a whole right side (a call of no node has none), and its occurrences where it
-- stands in a position.
pub record Judged : Type 0 where
  pub ty : Option Ty
  pub right : Option (List (Option Ty))
  pub walk : Position → List Occurrence

abbrev pub operand_of : UnOp → Position
operand_of one.Neg = Negated
operand_of one.Not = Inside
operand_of one.Pre = Inside
operand_of one.Current = Inside

abbrev pub single : Option Ty → (Position → List Occurrence) → Judged
single ty walk = record { ty = ty; right = Some (ty ∷ []); walk = walk }

abbrev pub types_of : List Judged → List (Option Ty)
types_of args = map (λ (a : Judged). a.ty) args

-- the operands' occurrences, from left to right, and then the expression's own
abbrev pub judge_level : Scope → ExprKind-F (ℕ → Judged) Judged → ℕ → Judged
judge_level scope (Named x) at = single (flat (value_named scope x)) (λ p. occurs at (NameUse scope x) ∷ [])
judge_level scope (Number n) at = single (Some Word) (λ p. occurs at (Literal scope p n) ∷ [])
judge_level scope (Truth b) at = single (Some Yes) (λ p. occurs at TruthLiteral ∷ [])
judge_level scope (One op a) at = single (unary_of op a.ty) (λ p. a.walk (operand_of op) ++ occurs at (Unary scope op a.ty) ∷ [])
judge_level scope (Two op a b) at = single (binary_of op a.ty b.ty) (λ p. a.walk Inside ++ (b.walk Inside ++ occurs at (Binary scope op a.ty b.ty) ∷ []))
judge_level scope (Cond a b c) at = single (conditional_of a.ty b.ty c.ty) (λ p. a.walk Inside ++ (b.walk Inside ++ (c.walk Inside ++ occurs at (Conditional a.ty b.ty c.ty) ∷ [])))
judge_level scope (Called f args) at = record {
  ty = the_one_of (results_of (signature_named scope f) (types_of args));
  right = results_of (signature_named scope f) (types_of args);
  walk = λ p. flat_map (λ (a : Judged). a.walk Inside) args ++ occurs at (Call scope p f (types_of args)) ∷ [];
}

abbrev pub judge : Scope → Expr → Judged
judge scope = fold-Expr (ℕ → Judged) Judged (judge_level scope) (λ e. e.kind e.at)

-- the occurrences of the arguments of a call, from left to right
abbrev pub arguments : Scope → List Expr → List Occurrence
arguments scope [] = []
arguments scope (e ∷ es) = (judge scope e).walk Inside ++ arguments scope es

-- the type of an expression, if it has one
abbrev pub type_of : Scope → Expr → Option Ty
type_of scope e = (judge scope e).ty

-- the occurrences of an expression in a position
abbrev pub expression : Scope → Position → Expr → List Occurrence
expression scope position e = (judge scope e).walk position

-- the enumerators of the type declared at a place, from the i-th on
abbrev pub enumerator_names : Globals → ℕ → ℕ → List Spot → List Occurrence
enumerator_names globals ty i [] = []
enumerator_names globals ty i (choice ∷ choices) = occurs choice.at (EnumeratorName globals ty i choice.text) ∷ enumerator_names globals ty (suc i) choices

abbrev pub type_name : Globals → Spot → Occurrence
type_name globals ty = occurs ty.at (TypeName globals ty.text)

abbrev pub declared_type_name : Globals → Option Spot → List Occurrence
declared_type_name globals None = []
declared_type_name globals (Some ty) = type_name globals ty ∷ []

abbrev pub declared_type : Globals → Option Spot → Option (Option Ty)
declared_type globals None = None
declared_type globals (Some ty) = Some (type_named globals ty.text)

abbrev pub value_walk : Scope → Option Expr → List Occurrence
value_walk scope None = []
value_walk scope (Some e) = expression scope Inside e

abbrev pub value_type : Scope → Option Expr → Option (Option Ty)
value_type scope None = None
value_type scope (Some e) = Some (type_of scope e)

-- a constant: name, type, expression, and itself
abbrev pub constant : Scope → ℕ → Spot → Option Spot → Option Expr → List Occurrence
constant scope at name ty value =
    occurs name.at (GlobalName scope.globals (Constant scope.place) name.text) ∷ (declared_type_name scope.globals ty ++ (value_walk scope value ++ occurs at (ConstantItself (declared_type scope.globals ty) (value_type scope value)) ∷ []))

-- the name of an input, or of an output or local, in a node in which those names have equations
abbrev pub variable_name : Bool → Defined → List Name → Name → Thing
variable_name true defined before x = InputName before x
variable_name false defined before x = DefinedName before defined x

abbrev pub group_names : Bool → Defined → List Name → List Spot → List Occurrence
group_names is_input defined before [] = []
group_names is_input defined before (name ∷ names) = occurs name.at (variable_name is_input defined before name.text) ∷ group_names is_input defined (before ++ name.text ∷ []) names

abbrev pub clock_mark : Option Spot → List Occurrence
clock_mark None = []
clock_mark (Some clock) = occurs clock.at Clock ∷ []

-- a group, behind these variables of the node: the names, the type and the clock
abbrev pub group : Globals → Bool → Defined → List Name → Group → List Occurrence
group globals is_input defined before g = group_names is_input defined before g.names ++ (type_name globals g.ty ∷ clock_mark g.clock)

-- groups, one after the other
abbrev pub groups : Globals → Bool → Defined → List Name → List Group → List Occurrence
groups globals is_input defined before [] = []
groups globals is_input defined before (g ∷ gs) = group globals is_input defined before g ++ groups globals is_input defined (before ++ spot_names g.names) gs

abbrev pub left_names : Variables → List Name → List Spot → List Occurrence
left_names variables before [] = []
left_names variables before (name ∷ names) = occurs name.at (LeftName variables before name.text) ∷ left_names variables (before ++ name.text ∷ []) names

abbrev pub type_in : Option Variable → Option Ty
type_in None = None
type_in (Some v) = v.ty

abbrev pub left_types : Variables → List Spot → List (Option Ty)
left_types variables names = map (λ (name : Spot). type_in (variables name.text)) names

-- an equation is its left names, its right side, and itself; an assertion its expression, and itself
abbrev pub item : Scope → Variables → List Name → Item → List Occurrence
item scope variables before (Assert at e) = expression scope Inside e ++ occurs at (AssertionItself (type_of scope e)) ∷ []
item scope variables before (Equation at left e) =
    left_names variables before left ++ (expression scope Whole e ++ occurs at (EquationItself (left_types variables left) (judge scope e).right) ∷ [])

abbrev pub items : Scope → Variables → List Name → List Item → List Occurrence
items scope variables before [] = []
items scope variables before (i ∷ is) = item scope variables before i ++ items scope variables (before ++ left_of i) is
