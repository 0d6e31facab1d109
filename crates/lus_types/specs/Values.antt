-- The values of constants, at instant 0. `->`, `pre` and calls fail in a constant, so their rows don't matter.
use Rattle.std.specs.Prelude.{ℕ, List, [], ◌∷◌, ◌++◌, Option, Some, None, false, slice_index_or, pos}
use Rattle.lus_syntax.specs.declared.ast.Decl.{Decl}
use Rattle.lus_syntax.specs.declared.ast.Decl.TheVariants.{TypeDecl, ConstDecl, NodeDecl}
use Rattle.lus_syntax.specs.declared.ast.Expr.{Expr, fold-Expr}
use Rattle.lus_syntax.specs.declared.ast.ExprKind.TheOpen.{ExprKind-F, Name as Named, Number, Truth as Literal, One, Two, Cond, Call}
use Rattle.op_network.specs.declared.form.Binary.{Binary}
use Rattle.op_network.specs.declared.form.Unary.{Unary}
use Rattle.op_network.specs.declared.value.Value.{Value}
use Rattle.op_network.specs.declared.value.Value.TheVariants.{Truth, Word, Choice}
use Rattle.op_network.specs.Operators.{unary_value, binary_value, if_value}
use Rattle.op_network.specs.Values.{wrap}
use Rattle.lus_types.specs.declared.types.Meaning.{Meaning}
use Rattle.lus_types.specs.declared.types.Meaning.TheVariants.{Enumeration, Constant, Node, Enumerator}
use Rattle.lus_types.specs.Names.{Globals, globals}
use Rattle.lus_types.specs.Types.{ordinary_unary, ordinary_binary}

-- the value of what a global name means, over the values of constants by the places of their declarations
abbrev pub value_meant : List Value → Option Meaning → Value
value_meant known (Some (Enumerator ty i)) = Choice i
value_meant known (Some (Constant place)) = slice_index_or known place (Truth false)
value_meant known (Some (Enumeration ty)) = Truth false
value_meant known (Some (Node place)) = Truth false
value_meant known None = Truth false

abbrev pub unary_at_start : ℕ → Option Unary → Value → Value
unary_at_start width (Some o) a = unary_value width o a
unary_at_start width None a = a

abbrev pub binary_at_start : ℕ → Option Binary → Value → Value → Value
binary_at_start width (Some o) a b = binary_value width o a b
binary_at_start width None a b = a

-- a literal's value is wrapped
abbrev pub value_level : ℕ → Globals → List Value → ExprKind-F Value Value → Value
value_level width g known (Named x) = value_meant known (g x)
value_level width g known (Number n) = Word (wrap width (pos n))
value_level width g known (Literal b) = Truth b
value_level width g known (One op a) = unary_at_start width (ordinary_unary op) a
value_level width g known (Two op a b) = binary_at_start width (ordinary_binary op) a b
value_level width g known (Cond a b c) = if_value a b c
value_level width g known (Call f args) = Truth false

-- the value of a constant's expression, over the values of the constants before it
abbrev pub value : ℕ → Globals → List Value → Expr → Value
value width g known = fold-Expr Value Value (value_level width g known) (λ e. e.kind)

abbrev pub value_if : ℕ → Globals → List Value → Option Expr → Value
value_if width g known None = Truth false
value_if width g known (Some e) = value width g known e

abbrev pub constant_value : ℕ → Globals → List Value → Decl → Value
constant_value width g known (ConstDecl at name ty e) = value_if width g known e
constant_value width g known (TypeDecl at name choices) = Truth false
constant_value width g known (NodeDecl at name inputs outputs locals items) = Truth false

abbrev pub values_from : ℕ → Globals → List Value → List Decl → List Value
values_from width g known [] = known
values_from width g known (decl ∷ decls) = values_from width g (known ++ constant_value width g known decl ∷ []) decls

-- the values of the constants, by the places of their declarations
abbrev pub constant_values : ℕ → List Decl → List Value
constant_values width decls = values_from width (globals decls) [] decls
