-- Types: which words name one, and the types that operators take and give.
use Rattle.std.specs.Prelude.{Bool, true, false, cond, List, [], ◌∷◌, Option, Some, None, codes}
use Rattle.std.specs.Str.{bytes_eq}
use Rattle.lus_syntax.specs.declared.ast.UnOp.{UnOp}
use Rattle.lus_syntax.specs.declared.ast.UnOp.TheVariants as one
use Rattle.lus_syntax.specs.declared.ast.BinOp.{BinOp}
use Rattle.lus_syntax.specs.declared.ast.BinOp.TheVariants as two
use Rattle.lus_types.specs.declared.types.Meaning.{Meaning}
use Rattle.lus_types.specs.declared.types.Meaning.TheVariants.{Enumeration, Constant, Node, Enumerator}
use Rattle.op_network.specs.declared.form.Binary.{Binary}
use Rattle.op_network.specs.declared.form.Binary.TheVariants as network_two
use Rattle.op_network.specs.declared.form.Unary.{Unary}
use Rattle.op_network.specs.declared.form.Unary.TheVariants as network_one
use Rattle.op_network.specs.declared.value.Ty.{Ty}
use Rattle.op_network.specs.declared.value.Ty.TheVariants.{Truth, Word, Choice}
use Rattle.op_network.specs.Operators.{is_same_type, unary_type, binary_type, if_type, arrow_type}
use Rattle.lus_types.specs.Names.{Name, Globals}

abbrev pub type_meant : Option Meaning → Option Ty
type_meant (Some (Enumeration ty)) = Some (Choice ty)
type_meant (Some (Constant place)) = None
type_meant (Some (Node place)) = None
type_meant (Some (Enumerator place i)) = None
type_meant None = None

-- the type that a word names, if it names one; `real` names none
abbrev pub type_named : Globals → Name → Option Ty
type_named globals word =
    cond (bytes_eq word (codes "bool")) (Some Truth)
    (cond (bytes_eq word (codes "int")) (Some Word)
    (cond (bytes_eq word (codes "real")) None
    (type_meant (globals word))))

-- the operator of networks with one operand, if it is one
abbrev pub ordinary_unary : UnOp → Option Unary
ordinary_unary one.Not = Some network_one.Not
ordinary_unary one.Neg = Some network_one.Neg
ordinary_unary one.Pre = None
ordinary_unary one.Current = None

-- the operator of networks with two operands, if it is one
abbrev pub ordinary_binary : BinOp → Option Binary
ordinary_binary two.And = Some network_two.And
ordinary_binary two.Or = Some network_two.Or
ordinary_binary two.Xor = Some network_two.Xor
ordinary_binary two.Imp = Some network_two.Imp
ordinary_binary two.Eq = Some network_two.Eq
ordinary_binary two.Ne = Some network_two.Ne
ordinary_binary two.Lt = Some network_two.Lt
ordinary_binary two.Le = Some network_two.Le
ordinary_binary two.Gt = Some network_two.Gt
ordinary_binary two.Ge = Some network_two.Ge
ordinary_binary two.Add = Some network_two.Add
ordinary_binary two.Sub = Some network_two.Sub
ordinary_binary two.Mul = Some network_two.Mul
ordinary_binary two.Div = None
ordinary_binary two.Mod = None
ordinary_binary two.Arrow = None
ordinary_binary two.Fby = None
ordinary_binary two.When = None

abbrev pub is_pre : UnOp → Bool
is_pre one.Pre = true
is_pre one.Not = false
is_pre one.Neg = false
is_pre one.Current = false

abbrev pub is_arrow : BinOp → Bool
is_arrow two.Arrow = true
is_arrow _ = false

abbrev pub unary_over : Option Unary → Bool → Ty → Option Ty
unary_over (Some o) pre a = unary_type o a
unary_over None true a = Some a
unary_over None false a = None

abbrev pub binary_over : Option Binary → Bool → Ty → Ty → Option Ty
binary_over (Some o) arrow a b = binary_type o a b
binary_over None true a b = arrow_type a b
binary_over None false a b = None

-- The result of an operator over one operand, if it takes this type: as networks have it, and `pre` keeps the type.
-- `current` fails wherever it stands.
abbrev pub unary : UnOp → Ty → Option Ty
unary op a = unary_over (ordinary_unary op) (is_pre op) a

-- The result of an operator over two operands, if it takes these types, as networks have it. `div`, `mod`, `fby` and `when`
-- fail wherever they stand.
abbrev pub binary : BinOp → Ty → Ty → Option Ty
binary op a b = binary_over (ordinary_binary op) (is_arrow op) a b

-- What has no type gives no type.
abbrev pub unary_of : UnOp → Option Ty → Option Ty
unary_of op None = None
unary_of op (Some a) = unary op a

abbrev pub binary_of : BinOp → Option Ty → Option Ty → Option Ty
binary_of op None b = None
binary_of op (Some a) None = None
binary_of op (Some a) (Some b) = binary op a b

abbrev pub conditional_of : Option Ty → Option Ty → Option Ty → Option Ty
conditional_of None b c = None
conditional_of (Some a) None c = None
conditional_of (Some a) (Some b) None = None
conditional_of (Some a) (Some b) (Some c) = if_type a b c

-- each of them has a type
abbrev pub all_typed : List (Option Ty) → Bool
all_typed [] = true
all_typed (None ∷ tys) = false
all_typed (Some ty ∷ tys) = all_typed tys

-- both have a type, and they differ
abbrev pub differ : Option Ty → Option Ty → Bool
differ None b = false
differ (Some a) None = false
differ (Some a) (Some b) = cond (is_same_type a b) false true

-- some two in the same place have types that differ; what is left over doesn't matter
abbrev pub any_differ : List (Option Ty) → List (Option Ty) → Bool
any_differ [] bs = false
any_differ (a ∷ as') [] = false
any_differ (a ∷ as') (b ∷ bs) = cond (differ a b) true (any_differ as' bs)
