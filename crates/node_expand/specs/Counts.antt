-- How many edges stand for an expression and for an item, by the text alone: as many as `fragment` makes, and the
-- nodes of its calls in the same order.
use Rattle.std.specs.Prelude.{ℕ, suc, ◌+◌, Bool, true, false, if◌then◌else◌, List, [], ◌∷◌, ◌++◌, length, is_some}
use Rattle.std.specs.List.{flat_map}
use Rattle.lus_syntax.specs.declared.ast.Expr.{Expr, fold-Expr}
use Rattle.lus_syntax.specs.declared.ast.ExprKind.TheOpen.{ExprKind-F}
use Rattle.lus_syntax.specs.declared.ast.ExprKind.TheOpen as level
use Rattle.lus_syntax.specs.declared.ast.Item.{Item}
use Rattle.lus_syntax.specs.declared.ast.Item.TheVariants.{Assert, Equation}
use Rattle.lus_types.specs.Names.{Name}
use Rattle.lus_types.specs.Programs.{Node, Program}
use Rattle.node_expand.specs.Fragments.{Callees, size_of_all, total}
use Rattle.node_expand.specs.Names.{constant_in}

-- the right side of an equation, or what an assertion asserts
abbrev pub right_of : Item → Expr
right_of (Assert at e) = e
right_of (Equation at left e) = e

-- Whether the expression is an operator or a literal, and not a variable or a call. A constant or an enumerator counts
-- as a literal.
abbrev pub has_edge_level : Program → Node → ExprKind-F Bool Bool → Bool
has_edge_level program node (level.Name x) = is_some (constant_in program node x)
has_edge_level program node (level.Number k) = true
has_edge_level program node (level.Truth b) = true
has_edge_level program node (level.One o a) = true
has_edge_level program node (level.Two o a b) = true
has_edge_level program node (level.Cond a b c) = true
has_edge_level program node (level.Call g args) = false

abbrev pub has_edge : Program → Node → Expr → Bool
has_edge program node = fold-Expr Bool Bool (has_edge_level program node) (λ e. e.kind)

-- how many edges of its own an expression has: one for each operator and literal in it
abbrev pub own_count_level : Program → Node → ExprKind-F ℕ ℕ → ℕ
own_count_level program node (level.Name x) = if is_some (constant_in program node x) then 1 else 0
own_count_level program node (level.Number k) = 1
own_count_level program node (level.Truth b) = 1
own_count_level program node (level.One o a) = suc a
own_count_level program node (level.Two o a b) = suc (a + b)
own_count_level program node (level.Cond a b c) = suc (a + (b + c))
own_count_level program node (level.Call g args) = total args

abbrev pub own_count : Program → Node → Expr → ℕ
own_count program node = fold-Expr ℕ ℕ (own_count_level program node) (λ e. e.kind)

-- the nodes that an expression calls, in pre-order
abbrev pub nodes_called_level : ExprKind-F (List Name) (List Name) → List Name
nodes_called_level (level.Name x) = []
nodes_called_level (level.Number k) = []
nodes_called_level (level.Truth b) = []
nodes_called_level (level.One o a) = a
nodes_called_level (level.Two o a b) = a ++ b
nodes_called_level (level.Cond a b c) = a ++ (b ++ c)
nodes_called_level (level.Call g args) = g ∷ flat_map (λ names. names) args

abbrev pub nodes_called : Expr → List Name
nodes_called = fold-Expr (List Name) (List Name) nodes_called_level (λ e. e.kind)

-- the nodes that items call
abbrev pub nodes_called_in : List Item → List Name
nodes_called_in items = flat_map (λ (item : Item). nodes_called (right_of item)) items

-- how many roots an item has: one for each variable on its left; an assertion has one
abbrev pub root_count : Item → ℕ
root_count (Assert at e) = 1
root_count (Equation at left e) = length left

-- How many roots are edges `Id`: all, unless the right side has an edge for itself, which is the root.
abbrev pub id_count : Program → Node → Item → ℕ
id_count program node item = if has_edge program node (right_of item) then 0 else root_count item

-- where the instances of the calls of an item begin that begins at a place: behind its roots that are `Id`, and its own
-- edges
abbrev pub inner_place : Program → Node → ℕ → Item → ℕ
inner_place program node next item = next + id_count program node item + own_count program node (right_of item)

-- an item's edges: the roots that are `Id`, its own edges, and the instances of its calls
abbrev pub item_size : Program → Node → Callees → Item → ℕ
item_size program node callees item =
    id_count program node item + own_count program node (right_of item) + size_of_all callees (nodes_called (right_of item))

abbrev pub items_size : Program → Node → Callees → List Item → ℕ
items_size program node callees [] = 0
items_size program node callees (item ∷ items) =
    item_size program node callees item + items_size program node callees items
