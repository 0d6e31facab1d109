-- The operators. Each is one row in each of the tables: its form, its value, its types, and the two
-- conditions on its ports.
use Rattle.std.specs.Prelude.{ℕ, zero, suc, Bool, true, false, if◌then◌else◌, not, ◌&&◌, ◌||◌, ◌==◌, nat_le, ◌+ℤ◌, ◌-ℤ◌, ◌*ℤ◌, neg_ℤ, int_lt, List, [], ◌∷◌, Option, Some, None, slice_get, slice_index_or}
use Rattle.op_network.specs.declared.edge.EdgeId.{EdgeId}
use Rattle.op_network.specs.declared.edge.Edge.{Edge}
use Rattle.op_network.specs.declared.edge.Op.{Op}
use Rattle.op_network.specs.declared.edge.Op.TheVariants as op
use Rattle.op_network.specs.declared.form.Unary.{Unary}
use Rattle.op_network.specs.declared.form.Unary.TheVariants as one
use Rattle.op_network.specs.declared.form.Binary.{Binary}
use Rattle.op_network.specs.declared.form.Binary.TheVariants as two
use Rattle.op_network.specs.declared.form.Form.{Form}
use Rattle.op_network.specs.declared.form.Form.TheVariants.{Input, Const, One, Two, Ite, Arrow, Pre}
use Rattle.op_network.specs.declared.value.Ty.{Ty}
use Rattle.op_network.specs.declared.value.Ty.TheVariants as type
use Rattle.op_network.specs.declared.value.Value.{Value}
use Rattle.op_network.specs.declared.value.Value.TheVariants.{Truth, Word}
use Rattle.op_network.specs.Values.{default, is_true, number, xor, is_same, wrap}

-- ---- the forms

-- the form of an operator, by how many operands it has
abbrev pub form_of : Op → Form
form_of (op.Input i) = Input i
form_of (op.Const v) = Const v
form_of (op.Id a) = One one.Id a
form_of (op.Not a) = One one.Not a
form_of (op.Neg a) = One one.Neg a
form_of (op.And a b) = Two two.And a b
form_of (op.Or a b) = Two two.Or a b
form_of (op.Xor a b) = Two two.Xor a b
form_of (op.Imp a b) = Two two.Imp a b
form_of (op.Eq a b) = Two two.Eq a b
form_of (op.Ne a b) = Two two.Ne a b
form_of (op.Lt a b) = Two two.Lt a b
form_of (op.Le a b) = Two two.Le a b
form_of (op.Gt a b) = Two two.Gt a b
form_of (op.Ge a b) = Two two.Ge a b
form_of (op.Add a b) = Two two.Add a b
form_of (op.Sub a b) = Two two.Sub a b
form_of (op.Mul a b) = Two two.Mul a b
form_of (op.Ite a b c) = Ite a b c
form_of (op.Arrow a b) = Arrow a b
form_of (op.Pre a) = Pre a

-- the operands, in the order of the ports
abbrev pub operands_by : Form → List EdgeId
operands_by (Input i) = []
operands_by (Const v) = []
operands_by (One o a) = a ∷ []
operands_by (Two o a b) = a ∷ b ∷ []
operands_by (Ite a b c) = a ∷ b ∷ c ∷ []
operands_by (Arrow a b) = a ∷ b ∷ []
operands_by (Pre a) = a ∷ []

abbrev pub operands : Op → List EdgeId
operands o = operands_by (form_of o)

abbrev pub operands_in : Option Edge → List EdgeId
operands_in None = []
operands_in (Some edge) = operands edge.op

-- the operands of an edge, by its ports
abbrev pub operands_of : List Edge → EdgeId → List EdgeId
operands_of edges e = operands_in (slice_get edges e.0)

-- ---- the value, over the values of the operands and the width of words

-- of an operator with one operand
abbrev pub unary_value : ℕ → Unary → Value → Value
unary_value width one.Id a = a
unary_value width one.Not a = Truth (not (is_true a))
unary_value width one.Neg a = Word (wrap width (neg_ℤ (number a)))

-- of an operator with two operands
abbrev pub binary_value : ℕ → Binary → Value → Value → Value
binary_value width two.And a b = Truth (is_true a && is_true b)
binary_value width two.Or a b = Truth (is_true a || is_true b)
binary_value width two.Xor a b = Truth (xor (is_true a) (is_true b))
binary_value width two.Imp a b = Truth (not (is_true a) || is_true b)
binary_value width two.Eq a b = Truth (is_same a b)
binary_value width two.Ne a b = Truth (not (is_same a b))
binary_value width two.Lt a b = Truth (int_lt (number a) (number b))
binary_value width two.Le a b = Truth (not (int_lt (number b) (number a)))
binary_value width two.Gt a b = Truth (int_lt (number b) (number a))
binary_value width two.Ge a b = Truth (not (int_lt (number a) (number b)))
binary_value width two.Add a b = Word (wrap width (number a +ℤ number b))
binary_value width two.Sub a b = Word (wrap width (number a -ℤ number b))
binary_value width two.Mul a b = Word (wrap width (number a *ℤ number b))

-- of `if a then b else c`
abbrev pub if_value : Value → Value → Value → Value
if_value a b c = if is_true a then b else c

-- of `a -> b`: at instant 0, before which there is no frame, a, and later b
abbrev pub arrow_value : Option (List Value) → Value → Value → Value
arrow_value None a b = a
arrow_value (Some before) a b = b

-- the value of an edge in a frame, which has one value for each edge
abbrev pub at_edge : List Value → EdgeId → Value
at_edge frame e = slice_index_or frame e.0 (Truth false)

-- of `pre a`: at instant 0 the default of its type, and later the value of a at the instant before
abbrev pub pre_value : Option (List Value) → Ty → EdgeId → Value
pre_value None ty a = default ty
pre_value (Some before) ty a = at_edge before a

abbrev pub value_by : ℕ → Form → Ty → Option (List Value) → List Value → List Value → Value
value_by width (Input i) ty before now inputs = slice_index_or inputs i (Truth false)
value_by width (Const v) ty before now inputs = v
value_by width (One o a) ty before now inputs = unary_value width o (at_edge now a)
value_by width (Two o a b) ty before now inputs = binary_value width o (at_edge now a) (at_edge now b)
value_by width (Ite a b c) ty before now inputs = if_value (at_edge now a) (at_edge now b) (at_edge now c)
value_by width (Arrow a b) ty before now inputs = arrow_value before (at_edge now a) (at_edge now b)
value_by width (Pre a) ty before now inputs = pre_value before ty a

-- The value of an operator of a type at an instant, from the frame of the instant before (there is
-- none at instant 0), the frame of the instant, and the values of the inputs.
abbrev pub operator_value : ℕ → Op → Ty → Option (List Value) → List Value → List Value → Value
operator_value width o ty before now inputs = value_by width (form_of o) ty before now inputs

-- ---- the type of the result, if the operands have types that the operator takes

abbrev pub is_same_type : Ty → Ty → Bool
is_same_type type.Truth type.Truth = true
is_same_type type.Word type.Word = true
is_same_type (type.Choice c) (type.Choice d) = c == d
is_same_type _ _ = false

-- over two operands of one given type
abbrev pub over : Ty → Ty → Ty → Ty → Option Ty
over operand result a b = if is_same_type a operand && is_same_type b operand then Some result else None

-- over two operands of any one type
abbrev pub alike : Ty → Ty → Ty → Option Ty
alike result a b = if is_same_type a b then Some result else None

-- of an operator with one operand
abbrev pub unary_type : Unary → Ty → Option Ty
unary_type one.Id a = Some a
unary_type one.Not a = over type.Truth type.Truth a a
unary_type one.Neg a = over type.Word type.Word a a

-- of an operator with two operands
abbrev pub binary_type : Binary → Ty → Ty → Option Ty
binary_type two.And a b = over type.Truth type.Truth a b
binary_type two.Or a b = over type.Truth type.Truth a b
binary_type two.Xor a b = over type.Truth type.Truth a b
binary_type two.Imp a b = over type.Truth type.Truth a b
binary_type two.Eq a b = alike type.Truth a b
binary_type two.Ne a b = alike type.Truth a b
binary_type two.Lt a b = over type.Word type.Truth a b
binary_type two.Le a b = over type.Word type.Truth a b
binary_type two.Gt a b = over type.Word type.Truth a b
binary_type two.Ge a b = over type.Word type.Truth a b
binary_type two.Add a b = over type.Word type.Word a b
binary_type two.Sub a b = over type.Word type.Word a b
binary_type two.Mul a b = over type.Word type.Word a b

-- of `if a then b else c`
abbrev pub if_type : Ty → Ty → Ty → Option Ty
if_type a b c = if is_same_type a type.Truth then alike b b c else None

-- of `a -> b`
abbrev pub arrow_type : Ty → Ty → Option Ty
arrow_type a b = alike a a b

-- ---- the conditions on the ports, over the truths of the operands

-- a path's step through the port of an operator with two operands is active
abbrev pub binary_step : Binary → ℕ → Bool → Bool → Bool
binary_step two.And zero a b = not a || b
binary_step two.And (suc port) a b = not b || a
binary_step two.Or zero a b = a || not b
binary_step two.Or (suc port) a b = b || not a
binary_step two.Imp zero a b = not a || not b
binary_step two.Imp (suc port) a b = b || a
binary_step _ port a b = true

-- a tag passes the port of an operator with two operands: the other operand does not hide it
abbrev pub is_binary_unmasked : Binary → ℕ → Bool → Bool → Bool
is_binary_unmasked two.And zero a b = b
is_binary_unmasked two.And (suc port) a b = a
is_binary_unmasked two.Or zero a b = not b
is_binary_unmasked two.Or (suc port) a b = not a
is_binary_unmasked two.Imp zero a b = not b
is_binary_unmasked two.Imp (suc port) a b = a
is_binary_unmasked _ port a b = true

-- a port of `if` is chosen: port 0 always, the others by the truth of the first operand
abbrev pub is_chosen : ℕ → Bool → Bool
is_chosen zero a = true
is_chosen (suc zero) a = a
is_chosen (suc (suc port)) a = not a

abbrev pub step_by : Form → ℕ → List Value → Bool
step_by (Two o a b) port frame = binary_step o port (is_true (at_edge frame a)) (is_true (at_edge frame b))
step_by (Ite a b c) port frame = is_chosen port (is_true (at_edge frame a))
step_by _ port frame = true

-- A path's step through the port of the operator is active at an instant with this frame. The ports
-- of `Arrow` and `Pre` have no condition here: theirs is on the instant itself.
abbrev pub step_condition : Op → ℕ → List Value → Bool
step_condition o port frame = step_by (form_of o) port frame

abbrev pub is_unmasked_by : Form → ℕ → List Value → ℕ → Bool
is_unmasked_by (Two o a b) port frame t = is_binary_unmasked o port (is_true (at_edge frame a)) (is_true (at_edge frame b))
is_unmasked_by (Ite a b c) port frame t = is_chosen port (is_true (at_edge frame a))
is_unmasked_by (Arrow a b) zero frame t = t == 0
is_unmasked_by (Arrow a b) (suc port) frame t = nat_le 1 t
is_unmasked_by _ port frame t = true

-- A tag passes the port of the operator at instant t, which has this frame. Through `Pre` it always
-- passes, to the next instant.
abbrev pub is_unmasked : Op → ℕ → List Value → ℕ → Bool
is_unmasked o port frame t = is_unmasked_by (form_of o) port frame t
