-- What stands in the network for an expression.
use Rattle.std.specs.Prelude.{ℕ, suc, ◌+◌, Bool, List, [], ◌∷◌, ◌++◌, length, map, Option, Some, None, pos, unwrap_or}
use Rattle.std.specs.Option.{option_map_or}
use Rattle.lus_syntax.specs.declared.ast.BinOp.{BinOp}
use Rattle.lus_syntax.specs.declared.ast.Expr.{Expr, fold-Expr}
use Rattle.lus_syntax.specs.declared.ast.ExprKind.TheOpen.{ExprKind-F}
use Rattle.lus_syntax.specs.declared.ast.ExprKind.TheOpen as level
use Rattle.lus_syntax.specs.declared.ast.UnOp.{UnOp}
use Rattle.lus_types.specs.declared.types.Constant.{Constant}
use Rattle.op_network.specs.declared.edge.Edge.{Edge}
use Rattle.op_network.specs.declared.edge.EdgeId.{EdgeId}
use Rattle.op_network.specs.declared.edge.Op.TheVariants as op
use Rattle.op_network.specs.declared.value.Ty.{Ty}
use Rattle.op_network.specs.declared.value.Ty.TheVariants as type
use Rattle.op_network.specs.declared.value.Value.TheVariants as value
use Rattle.op_network.specs.Operators.{if_type}
use Rattle.op_network.specs.Values.{wrap}
use Rattle.lus_types.specs.Names.{Name, entry_of}
use Rattle.lus_types.specs.Programs.{Node, Program, or_truth, type_of_name, types}
use Rattle.lus_types.specs.Types.{ordinary_unary, ordinary_binary, unary, binary}
pub use Rattle.node_expand.specs.declared.parts.Gate.{Gate}
pub use Rattle.node_expand.specs.declared.parts.Call.{Call}
use Rattle.node_expand.specs.Names.{constant_in}
use Rattle.node_expand.specs.Operators.{op_of_one, op_of_two}

abbrev pub edge : ℕ → EdgeId
edge place = record { 0 = place }

-- What is known of the nodes that a node may call. The edges of an instance of a node stand one behind the other.
pub record Callees : Type 0 where
  -- how many edges an instance of the node has
  pub size : Name → ℕ
  -- the places of the edges of the results of the instance that begins at a place
  pub results : Name → ℕ → List ℕ
  -- the places of the roots of its assertions and of those of all instances called in it
  pub asserts : Name → ℕ → List ℕ
  -- its edges: over the places of its arguments, under a prefix of names, for an assertion or not, from a place on
  pub edges : Name → List ℕ → Name → Bool → ℕ → List Edge

abbrev pub total : List ℕ → ℕ
total [] = 0
total (n ∷ ns) = n + total ns

-- how many edges an instance of each of these nodes has, together
abbrev pub size_of_all : Callees → List Name → ℕ
size_of_all callees nodes = total (map callees.size nodes)

-- the called nodes
abbrev pub nodes_of : List Call → List Name
nodes_of calls = map (λ (c : Call). c.node) calls

-- What stands for an expression: the places of the edges that are its values, of a call one for each result, of any
-- other expression one; the type of the first value; the expression's own edges in pre-order, without their names; and
-- its calls in pre-order.
pub record Fragment : Type 0 where
  pub values : List ℕ
  pub ty : Ty
  pub own : List Gate
  pub calls : List Call

-- over the place where its own edges begin, and the place where the instances of its calls do
abbrev pub Placing : Type 0
Placing = ℕ → ℕ → Fragment

-- the places of the edges of variables
abbrev pub Places : Type 0
Places = List (Name × ℕ)

abbrev pub place_of : Places → Name → ℕ
place_of places x = unwrap_or (entry_of places x) 0

abbrev pub first_place : List ℕ → ℕ
first_place [] = 0
first_place (n ∷ ns) = n

abbrev pub first_type : List Ty → Ty
first_type [] = type.Truth
first_type (ty ∷ tys) = ty

-- the edge of an operand
abbrev pub operand : Fragment → EdgeId
operand a = edge (first_place a.values)

-- a literal or a constant is one edge
abbrev pub const_fragment : Gate → ℕ → Fragment
const_fragment gate at = record { values = at ∷ []; ty = gate.ty; own = gate ∷ []; calls = [] }

-- a constant or an enumerator is an edge; a variable has its edge elsewhere
abbrev pub name_fragment : Option Constant → Ty → ℕ → ℕ → Fragment
name_fragment (Some c) ty place at = const_fragment (record { op = op.Const c.value; ty = ty }) at
name_fragment None ty place at = record { values = place ∷ []; ty = ty; own = []; calls = [] }

-- an operator is an edge, before those of its operands
abbrev pub unary_fragment : UnOp → ℕ → Fragment → Fragment
unary_fragment o at a =
    let ty = or_truth (unary o a.ty) in
    record {
      values = at ∷ [];
      ty = ty;
      own = record { op = op_of_one (ordinary_unary o) (operand a); ty = ty } ∷ a.own;
      calls = a.calls;
    }

abbrev pub binary_fragment : BinOp → ℕ → Fragment → Fragment → Fragment
binary_fragment o at a b =
    let ty = or_truth (binary o a.ty b.ty) in
    record {
      values = at ∷ [];
      ty = ty;
      own = record { op = op_of_two (ordinary_binary o) (operand a) (operand b); ty = ty } ∷ (a.own ++ b.own);
      calls = a.calls ++ b.calls;
    }

abbrev pub if_fragment : ℕ → Fragment → Fragment → Fragment → Fragment
if_fragment at a b c =
    let ty = or_truth (if_type a.ty b.ty c.ty) in
    record {
      values = at ∷ [];
      ty = ty;
      own = record { op = op.Ite (operand a) (operand b) (operand c); ty = ty } ∷ (a.own ++ (b.own ++ c.own));
      calls = a.calls ++ (b.calls ++ c.calls);
    }

-- the type of the first result of a node
abbrev pub result_type : Option Node → Ty
result_type found = option_map_or (λ (node : Node). first_type (types node.outputs)) found type.Truth

-- the expressions of a node of a program, whose variables have edges at these places
module _ (program : Program) (node : Node) (callees : Callees) (places : Places) where
  -- where the next own edges begin behind these, and the next instances
  abbrev pub own_behind : ℕ → Fragment → ℕ
  own_behind at a = at + length a.own

  abbrev pub calls_behind : ℕ → Fragment → ℕ
  calls_behind inner a = inner + size_of_all callees (nodes_of a.calls)

  abbrev pub place_binary : BinOp → Placing → Placing → Placing
  place_binary o first second at inner =
      let a = first (suc at) inner in
      binary_fragment o at a (second (own_behind (suc at) a) (calls_behind inner a))

  abbrev pub place_if : Placing → Placing → Placing → Placing
  place_if first second third at inner =
      let a = first (suc at) inner in
      let b = second (own_behind (suc at) a) (calls_behind inner a) in
      if_fragment at a b (third (own_behind (own_behind (suc at) a) b) (calls_behind (calls_behind inner a) b))

  -- the arguments of a call, one behind the other, as one fragment: its values are their edges
  abbrev pub place_all : List Placing → Placing
  place_all [] at inner = record { values = []; ty = type.Truth; own = []; calls = [] }
  place_all (first ∷ more) at inner =
      let a = first at inner in
      let b = place_all more (own_behind at a) (calls_behind inner a) in
      record { values = first_place a.values ∷ b.values; ty = a.ty; own = a.own ++ b.own; calls = a.calls ++ b.calls }

  -- a call has no edge of its own; its instance stands before those of the calls in its arguments
  abbrev pub place_call : Name → List Placing → Placing
  place_call g args at inner =
      let a = place_all args at (inner + callees.size g) in
      record {
        values = callees.results g inner;
        ty = result_type (program.node g);
        own = a.own;
        calls = record { node = g; args = a.values } ∷ a.calls;
      }

  abbrev pub place_level : ExprKind-F Placing Placing → Placing
  place_level (level.Name x) at inner =
      name_fragment (constant_in program node x) (or_truth (type_of_name program node x)) (place_of places x) at
  place_level (level.Number k) at inner =
      const_fragment (record { op = op.Const (value.Word (wrap program.width (pos k))); ty = type.Word }) at
  place_level (level.Truth b) at inner = const_fragment (record { op = op.Const (value.Truth b); ty = type.Truth }) at
  place_level (level.One o a) at inner = unary_fragment o at (a (suc at) inner)
  place_level (level.Two o a b) at inner = place_binary o a b at inner
  place_level (level.Cond a b c) at inner = place_if a b c at inner
  place_level (level.Call g args) at inner = place_call g args at inner

  abbrev pub fragment : Expr → Placing
  fragment = fold-Expr Placing Placing place_level (λ e. e.kind)
