-- The operators of edges, by those of expressions.
use Rattle.std.specs.Prelude.{Option, Some, None}
use Rattle.op_network.specs.declared.edge.EdgeId.{EdgeId}
use Rattle.op_network.specs.declared.edge.Op.{Op}
use Rattle.op_network.specs.declared.edge.Op.TheVariants as op
use Rattle.op_network.specs.declared.form.Binary.{Binary}
use Rattle.op_network.specs.declared.form.Binary.TheVariants as two
use Rattle.op_network.specs.declared.form.Unary.{Unary}
use Rattle.op_network.specs.declared.form.Unary.TheVariants as one

-- an ordinary operator over an edge
abbrev pub unary_op : Unary → EdgeId → Op
unary_op one.Id a = op.Id a
unary_op one.Not a = op.Not a
unary_op one.Neg a = op.Neg a

-- an ordinary operator over two edges
abbrev pub binary_op : Binary → EdgeId → EdgeId → Op
binary_op two.And a b = op.And a b
binary_op two.Or a b = op.Or a b
binary_op two.Xor a b = op.Xor a b
binary_op two.Imp a b = op.Imp a b
binary_op two.Eq a b = op.Eq a b
binary_op two.Ne a b = op.Ne a b
binary_op two.Lt a b = op.Lt a b
binary_op two.Le a b = op.Le a b
binary_op two.Gt a b = op.Gt a b
binary_op two.Ge a b = op.Ge a b
binary_op two.Add a b = op.Add a b
binary_op two.Sub a b = op.Sub a b
binary_op two.Mul a b = op.Mul a b

-- An operator with one operand: of those that typing takes, only `pre` isn't ordinary. A new operator with streams of
-- its own is to change here first.
abbrev pub op_of_one : Option Unary → EdgeId → Op
op_of_one (Some o) a = unary_op o a
op_of_one None a = op.Pre a

-- An operator with two operands: of those that typing takes, only `->` isn't ordinary. A new operator with streams of
-- its own is to change here first.
abbrev pub op_of_two : Option Binary → EdgeId → EdgeId → Op
op_of_two (Some o) a b = binary_op o a b
op_of_two None a b = op.Arrow a b
