-- A typed program: its names have types, its operators take their operands, its equations define.
use Rattle.std.specs.Prelude.{◌≡◌, ◌<◌, ℕ, Bool, List, [], ◌∷◌, ◌++◌, length, slice_get, Option, Some}
use Rattle.std.specs.List.{flat_map}
use Rattle.lus_syntax.specs.declared.ast.BinOp.{BinOp}
use Rattle.lus_syntax.specs.declared.ast.BinOp.TheVariants as two
use Rattle.lus_syntax.specs.declared.ast.Decl.{Decl}
use Rattle.lus_syntax.specs.declared.ast.Expr.{Expr}
use Rattle.lus_syntax.specs.declared.ast.ExprKind.TheVariants as tree
use Rattle.lus_syntax.specs.declared.ast.Item.{Item}
use Rattle.lus_syntax.specs.declared.ast.Item.TheVariants.{Assert, Equation}
use Rattle.lus_syntax.specs.declared.ast.Spot.{Spot}
use Rattle.lus_syntax.specs.declared.ast.UnOp.{UnOp}
use Rattle.lus_syntax.specs.declared.ast.UnOp.TheVariants as one
use Rattle.op_network.specs.declared.form.Binary.{Binary}
use Rattle.op_network.specs.declared.form.Unary.{Unary}
use Rattle.op_network.specs.declared.value.Ty.{Ty}
use Rattle.op_network.specs.declared.value.Ty.TheVariants.{Truth, Word, Choice}
use Rattle.op_network.specs.declared.value.Value.{Value}
use Rattle.op_network.specs.declared.value.Value.TheVariants as value
use Rattle.op_network.specs.Values.{IsWord}
use Rattle.op_network.specs.Operators.{unary_type, binary_type, if_type, arrow_type}
use Rattle.lus_types.specs.Calls.{In, called_in}
use Rattle.lus_types.specs.Names.{Name, lefts}
use Rattle.lus_types.specs.Programs.{Enumeration, Node, Program, names, node_at, program_of, types, variables, type_of_name}
use Rattle.lus_types.specs.Types.{ordinary_unary, ordinary_binary}

mutual
  -- The types of an expression's values, over what names and called nodes mean: of a call one for each result, else one.
  pub data HasTypes (name_type : Name → Option Ty) (node : Name → Option Node) : Expr → List Ty → Type 0 where
    types_name : {e : Expr} (x : Name) (t : Ty) → e.kind ≡ tree.Name x → name_type x ≡ Some t → HasTypes name_type node e (t ∷ [])
    types_number : {e : Expr} (n : ℕ) → e.kind ≡ tree.Number n → HasTypes name_type node e (Word ∷ [])
    types_truth : {e : Expr} (b : Bool) → e.kind ≡ tree.Truth b → HasTypes name_type node e (Truth ∷ [])
    types_unary : {e : Expr} {s t : Ty} (op : UnOp) (o : Unary) (a : Expr)
        → e.kind ≡ tree.One op a → ordinary_unary op ≡ Some o → unary_type o s ≡ Some t
        → HasTypes name_type node a (s ∷ []) → HasTypes name_type node e (t ∷ [])
    types_pre : {e : Expr} {t : Ty} (a : Expr)
        → e.kind ≡ tree.One one.Pre a → HasTypes name_type node a (t ∷ []) → HasTypes name_type node e (t ∷ [])
    types_binary : {e : Expr} {r s t : Ty} (op : BinOp) (o : Binary) (a b : Expr)
        → e.kind ≡ tree.Two op a b → ordinary_binary op ≡ Some o → binary_type o r s ≡ Some t
        → HasTypes name_type node a (r ∷ []) → HasTypes name_type node b (s ∷ []) → HasTypes name_type node e (t ∷ [])
    types_arrow : {e : Expr} {r s t : Ty} (a b : Expr)
        → e.kind ≡ tree.Two two.Arrow a b → arrow_type r s ≡ Some t
        → HasTypes name_type node a (r ∷ []) → HasTypes name_type node b (s ∷ []) → HasTypes name_type node e (t ∷ [])
    types_if : {e : Expr} {q r s t : Ty} (a b c : Expr)
        → e.kind ≡ tree.Cond a b c → if_type q r s ≡ Some t
        → HasTypes name_type node a (q ∷ []) → HasTypes name_type node b (r ∷ []) → HasTypes name_type node c (s ∷ [])
        → HasTypes name_type node e (t ∷ [])
    types_call : {e : Expr} (g : Name) (args : List Expr) (callee : Node)
        → e.kind ≡ tree.Call g args → node g ≡ Some callee
        → HaveTypes name_type node args (types callee.inputs) → HasTypes name_type node e (types callee.outputs)

  -- expressions with one value each have these types
  pub data HaveTypes (name_type : Name → Option Ty) (node : Name → Option Node) : List Expr → List Ty → Type 0 where
    no_types : HaveTypes name_type node [] []
    more_types : {e : Expr} {es : List Expr} {t : Ty} {ts : List Ty}
        → HasTypes name_type node e (t ∷ []) → HaveTypes name_type node es ts → HaveTypes name_type node (e ∷ es) (t ∷ ts)

-- each of these names has the type in its place
pub data NamesHaveTypes (name_type : Name → Option Ty) : List Spot → List Ty → Type 0 where
  no_names : NamesHaveTypes name_type [] []
  more_names : {s : Spot} {left : List Spot} {t : Ty} {ts : List Ty}
      → name_type s.text ≡ Some t → NamesHaveTypes name_type left ts → NamesHaveTypes name_type (s ∷ left) (t ∷ ts)

-- the right side of an equation has the types of its left names; an assertion is a truth
pub data IsTypedItem (name_type : Name → Option Ty) (node : Name → Option Node) : Item → Type 0 where
  typed_equation : {at : ℕ} {left : List Spot} {e : Expr} (ts : List Ty)
      → NamesHaveTypes name_type left ts → HasTypes name_type node e ts → IsTypedItem name_type node (Equation at left e)
  typed_assertion : {at : ℕ} {e : Expr} → HasTypes name_type node e (Truth ∷ []) → IsTypedItem name_type node (Assert at e)

-- no name stands twice
abbrev pub AreDistinct : List Name → Type 0
AreDistinct [] = Unit {0}
AreDistinct (x ∷ xs) = (In x xs → ⊥) × AreDistinct xs

-- no name is declared twice; the items are typed; exactly the outputs and locals have equations, and each has one
pub record IsTypedNode (program : Program) (node : Node) : Type 0 where
  pub distinct : AreDistinct (names (variables node))
  pub items : (item : Item) → In item node.items → IsTypedItem (type_of_name program node) program.node item
  pub once : AreDistinct (lefts node.items)
  pub defined : (x : Name) → In x (names (node.outputs ++ node.locals)) → In x (lefts node.items)
  pub defines : (x : Name) → In x (lefts node.items) → In x (names (node.outputs ++ node.locals))

-- one node calls another
pub record CallsNode (program : Program) (f g : Name) : Type 0 where
  pub caller : Node
  pub callee : Node
  pub calls : program.node f ≡ Some caller
  pub is_called : program.node g ≡ Some callee
  pub among : In g (flat_map called_in caller.items)

-- by one call or several
pub data ReachesNode (program : Program) : Name → Name → Type 0 where
  by_call : {f g : Name} → CallsNode program f g → ReachesNode program f g
  by_calls : {f g h : Name} → CallsNode program f g → ReachesNode program g h → ReachesNode program f h

-- each node is typed, and none reaches itself by calls
pub record IsTypedProgram (program : Program) : Type 0 where
  pub nodes : (g : Name) (node : Node) → program.node g ≡ Some node → IsTypedNode program node
  pub ends : (g : Name) → ReachesNode program g g → ⊥

-- each node is the one that its name means, and one stands at the place
pub record HasNodes (decls : List Decl) (width main : ℕ) : Type 0 where
  pub named : (place : ℕ) (node : Node) → node_at decls place ≡ Some node → (program_of decls width).node node.name ≡ Some node
  pub main_node : Node
  pub is_main : node_at decls main ≡ Some main_node

-- a value is of a type: a word in the range of the width, or the place of an enumerator in its type
abbrev pub FitsValue : Program → Value → Ty → Type 0
FitsValue program (value.Truth b) Truth = Unit {0}
FitsValue program (value.Word w) Word = IsWord program.width w
FitsValue program (value.Choice k) (Choice c) = (e : Enumeration) × (slice_get program.types c ≡ Some e) × (k < length e.names)
FitsValue program _ _ = ⊥

-- each constant and each enumerator has a value of its type
pub record HasValues (program : Program) : Type 0 where
  pub values : (x : Name) (ty : Ty) → program.constant x ≡ Some ty → FitsValue program (program.value x) ty
