-- Source streams: what a node means, by its equations and those of the nodes that it calls. Nothing here
-- knows of edges.
use Rattle.std.specs.Prelude.{◌≡◌, ℕ, Bool, List, [], ◌∷◌, ◌++◌, map, replicate, pos, Some}
use Rattle.lus_syntax.specs.declared.ast.BinOp.{BinOp}
use Rattle.lus_syntax.specs.declared.ast.BinOp.TheVariants as two
use Rattle.lus_syntax.specs.declared.ast.Expr.{Expr}
use Rattle.lus_syntax.specs.declared.ast.ExprKind.TheVariants as tree
use Rattle.lus_syntax.specs.declared.ast.Item.{Item}
use Rattle.lus_syntax.specs.declared.ast.Item.TheVariants.{Assert, Equation}
use Rattle.lus_syntax.specs.declared.ast.Spot.{Spot}
use Rattle.lus_syntax.specs.declared.ast.UnOp.{UnOp}
use Rattle.lus_syntax.specs.declared.ast.UnOp.TheVariants as one
use Rattle.lus_types.specs.declared.types.Constant.{Constant}
use Rattle.op_network.specs.declared.form.Binary.{Binary}
use Rattle.op_network.specs.declared.form.Unary.{Unary}
use Rattle.op_network.specs.declared.value.Ty.{Ty}
use Rattle.op_network.specs.declared.value.Value.TheVariants.{Truth, Word}
use Rattle.op_network.specs.Operators.{unary_value, binary_value, if_value}
use Rattle.op_network.specs.Values.{default, wrap}
use Rattle.lus_types.specs.Names.{Name, spot_names}
use Rattle.lus_types.specs.Programs.{Node, Program, names, type_in, type_of_name, variables}
use Rattle.lus_types.specs.ProgramTypes.{HasTypes}
use Rattle.lus_types.specs.Types.{ordinary_unary, ordinary_binary}
use Rattle.node_expand.specs.Names.{constant_in}
use Rattle.node_expand.specs.Streams.{Stream, HaveLength, binary_stream, ternary_stream, arrow_stream, pre_stream, all_true}

-- the streams of a node's variables, by their names
abbrev pub Streams : Type 0
Streams = Name → Stream

mutual
  -- Over n instants, in a node whose variables have these streams, an expression has a list of streams: a call one
  -- for each result of its node, any other expression one. The last list has the streams of all assertions of the
  -- nodes that are called for it.
  pub data HasStreams (program : Program) (n : ℕ)
      : Node → Streams → Expr → List Stream → List Stream → Type 0 where
    has_variable : {node : Node} {of : Streams} {e : Expr} (x : Name) (ty : Ty)
        → e.kind ≡ tree.Name x → type_in node x ≡ Some ty
        → HasStreams program n node of e (of x ∷ []) []
    has_constant : {node : Node} {of : Streams} {e : Expr} (x : Name) (c : Constant)
        → e.kind ≡ tree.Name x → constant_in program node x ≡ Some c
        → HasStreams program n node of e (replicate n c.value ∷ []) []
    has_number : {node : Node} {of : Streams} {e : Expr} (k : ℕ)
        → e.kind ≡ tree.Number k
        → HasStreams program n node of e (replicate n (Word (wrap program.width (pos k))) ∷ []) []
    has_truth : {node : Node} {of : Streams} {e : Expr} (b : Bool)
        → e.kind ≡ tree.Truth b
        → HasStreams program n node of e (replicate n (Truth b) ∷ []) []
    -- an ordinary operator takes its operands' values at the instant
    has_unary : {node : Node} {of : Streams} {e : Expr} {s : Stream} {checks : List Stream}
        (op : UnOp) (o : Unary) (a : Expr)
        → e.kind ≡ tree.One op a → ordinary_unary op ≡ Some o
        → HasStreams program n node of a (s ∷ []) checks
        → HasStreams program n node of e (map (unary_value program.width o) s ∷ []) checks
    has_binary : {node : Node} {of : Streams} {e : Expr} {s r : Stream} {checks more : List Stream}
        (op : BinOp) (o : Binary) (a b : Expr)
        → e.kind ≡ tree.Two op a b → ordinary_binary op ≡ Some o
        → HasStreams program n node of a (s ∷ []) checks → HasStreams program n node of b (r ∷ []) more
        → HasStreams program n node of e (binary_stream (binary_value program.width o) s r ∷ []) (checks ++ more)
    has_if : {node : Node} {of : Streams} {e : Expr} {s r q : Stream} {checks more rest : List Stream}
        (a b c : Expr)
        → e.kind ≡ tree.Cond a b c
        → HasStreams program n node of a (s ∷ []) checks → HasStreams program n node of b (r ∷ []) more
        → HasStreams program n node of c (q ∷ []) rest
        → HasStreams program n node of e (ternary_stream if_value s r q ∷ []) (checks ++ (more ++ rest))
    -- `->` is its first operand at instant 0, and its second one later
    has_arrow : {node : Node} {of : Streams} {e : Expr} {s r : Stream} {checks more : List Stream}
        (a b : Expr)
        → e.kind ≡ tree.Two two.Arrow a b
        → HasStreams program n node of a (s ∷ []) checks → HasStreams program n node of b (r ∷ []) more
        → HasStreams program n node of e (arrow_stream s r ∷ []) (checks ++ more)
    -- `pre` is its operand at the instant before; at instant 0 the default of the operand's type
    has_pre : {node : Node} {of : Streams} {e : Expr} {s : Stream} {checks : List Stream}
        (ty : Ty) (a : Expr)
        → e.kind ≡ tree.One one.Pre a → HasTypes (type_of_name program node) program.node a (ty ∷ [])
        → HasStreams program n node of a (s ∷ []) checks
        → HasStreams program n node of e (pre_stream (default ty) s ∷ []) checks
    -- a call has results with which its node runs over the arguments' streams; each call is a run of its own
    has_call : {node : Node} {of : Streams} {e : Expr} {ins outs checks inner : List Stream}
        (g : Name) (args : List Expr)
        → e.kind ≡ tree.Call g args
        → HaveStreams program n node of args ins checks
        → Runs program n g ins outs inner
        → HasStreams program n node of e outs (inner ++ checks)

  -- Each of these arguments has one stream. The last list has the streams of all assertions of the nodes that are
  -- called for them.
  pub data HaveStreams (program : Program) (n : ℕ)
      : Node → Streams → List Expr → List Stream → List Stream → Type 0 where
    have_none : {node : Node} {of : Streams} → HaveStreams program n node of [] [] []
    have_more : {node : Node} {of : Streams} {e : Expr} {es : List Expr}
        {s : Stream} {streams checks more : List Stream}
        → HasStreams program n node of e (s ∷ []) checks → HaveStreams program n node of es streams more
        → HaveStreams program n node of (e ∷ es) (s ∷ streams) (checks ++ more)

  -- An equation holds where the variables on its left have the streams of its right side. An assertion asks only that
  -- its expression has a stream, true or not; so the nodes called in it run. This stream goes to the list of those of
  -- all assertions.
  pub data Holds (program : Program) (n : ℕ) : Node → Streams → Item → List Stream → Type 0 where
    holds_equation : {node : Node} {of : Streams} {at : ℕ} {left : List Spot} {e : Expr} {checks : List Stream}
        → HasStreams program n node of e (map of (spot_names left)) checks
        → Holds program n node of (Equation at left e) checks
    holds_assertion : {node : Node} {of : Streams} {at : ℕ} {e : Expr} {s : Stream} {checks : List Stream}
        → HasStreams program n node of e (s ∷ []) checks
        → Holds program n node of (Assert at e) (s ∷ checks)

  -- each of these items holds
  pub data AllHold (program : Program) (n : ℕ) : Node → Streams → List Item → List Stream → Type 0 where
    holds_none : {node : Node} {of : Streams} → AllHold program n node of [] []
    holds_more : {node : Node} {of : Streams} {item : Item} {items : List Item} {checks more : List Stream}
        → Holds program n node of item checks → AllHold program n node of items more
        → AllHold program n node of (item ∷ items) (checks ++ more)

  -- The node of this name runs n instants with these streams of its inputs and of its outputs: there are streams of n
  -- values for all its variables with which each equation holds. The last list has the streams of the assertions of
  -- the node and of all nodes called in it, also through others, call by call.
  pub data Runs (program : Program) (n : ℕ) : Name → List Stream → List Stream → List Stream → Type 0 where
    runs : {f : Name} {node : Node} {checks : List Stream} (of : Streams)
        → program.node f ≡ Some node
        → HaveLength n (map of (names (variables node)))
        → AllHold program n node of node.items checks
        → Runs program n f (map of (names node.inputs)) (map of (names node.outputs)) checks

-- The node f runs n instants with these streams of its inputs and of its outputs, and `ok` says at each instant whether
-- all assertions are true: those of f, and of all nodes called in it, also through others.
pub record NodeRun (program : Program) (f : Name) (n : ℕ) (ins outs : List Stream) (ok : List Bool) : Type 0 where
  pub checks : List Stream
  pub runs : Runs program n f ins outs checks
  pub asserted : ok ≡ all_true n checks
