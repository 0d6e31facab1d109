-- What code knows of the nodes that may be called, and where variables stand.
use Rattle.std.specs.Prelude.{ℕ, suc, ◌+◌, min, List, [], ◌∷◌, ◌++◌, map, zip, length, Option, Some, None, get_or}
use Rattle.lus_syntax.specs.declared.ast.Decl.{Decl}
use Rattle.lus_syntax.specs.declared.ast.Expr.{Expr, fold-Expr}
use Rattle.lus_syntax.specs.declared.ast.ExprKind.TheOpen.{ExprKind-F}
use Rattle.lus_syntax.specs.declared.ast.ExprKind.TheOpen as level
use Rattle.lus_syntax.specs.declared.ast.Item.{Item}
use Rattle.lus_types.specs.Names.{Name, Globals, left_of}
use Rattle.lus_types.specs.Programs.{Node, Program, names}
use Rattle.node_expand.specs.declared.limits.TheConstants.{MANY}
use Rattle.node_expand.specs.declared.outlines.Outline.{Outline}
use Rattle.node_expand.specs.Fragments.{Callees, Places, place_of, total}
use Rattle.node_expand.specs.Headers.{head_of, items_of}
use Rattle.node_expand.specs.NameTables.{with_entries}
use Rattle.node_expand.specs.Outlines.{Measure, callee, item_measure, measure_at, number_of, outlines_of}

-- the most that a number of code can be
abbrev pub cut : ℕ → ℕ
cut n = min n 0xFFFF_FFFF

-- places from one on
abbrev pub cut_places : {A : Type 0} → ℕ → List A → List ℕ
cut_places next [] = []
cut_places next (x ∷ xs) = next ∷ cut_places (cut (next + 1)) xs

-- the roots of the variables that items define, by the items' outlines
abbrev pub root_places : List Measure → ℕ → List Item → List Outline → Places
root_places sizes next [] outlines = []
root_places sizes next (item ∷ items) [] = []
root_places sizes next (item ∷ items) (o ∷ outlines) =
    zip (left_of item) (cut_places next (left_of item))
    ++ root_places sizes (cut (next + number_of (item_measure sizes o))) items outlines

-- the edges of the results of a node, counted from its first edge
abbrev pub results_among : List Measure → List Item → List Outline → List Name → List ℕ
results_among sizes items outlines outputs =
    map (λ x. min (place_of (with_entries [] (root_places sizes 0 items outlines)) x) MANY) outputs

abbrev pub result_places : List Measure → Node → List Item → List Outline → List ℕ
result_places sizes node items outlines = results_among sizes items outlines (names node.outputs)

-- of all declarations, by their places
abbrev pub all_results : Program → Globals → List Measure → List Decl → List (List ℕ)
all_results program g sizes decls = map (λ decl. result_places sizes (head_of g decl) (items_of decl) (outlines_of program g decl)) decls

abbrev pub results_at : List (List ℕ) → Option ℕ → List ℕ
results_at results None = []
results_at results (Some place) = get_or results place []

-- Nodes by their sizes and by the places of their results.
abbrev pub known_callees : Globals → List Measure → List (List ℕ) → Callees
known_callees g sizes results = record {
  size = λ f. number_of (measure_at sizes (callee g f));
  results = λ f start. map (λ k. start + k) (results_at results (callee g f));
  asserts = λ f start. [];
  edges = λ f args prefix asserted start. [];
}

-- how many edges the instances of an expression's calls have
abbrev pub inner_level : Callees → ExprKind-F ℕ ℕ → ℕ
inner_level callees (level.Name x) = 0
inner_level callees (level.Number k) = 0
inner_level callees (level.Truth b) = 0
inner_level callees (level.One o a) = a
inner_level callees (level.Two o a b) = a + b
inner_level callees (level.Cond a b c) = a + (b + c)
inner_level callees (level.Call f args) = callees.size f + total args

abbrev pub inner_count : Callees → Expr → ℕ
inner_count callees = fold-Expr ℕ ℕ (inner_level callees) (λ e. e.kind)

-- how much there is of an expression: what recursion over it goes down by
abbrev pub weight_level : ExprKind-F ℕ ℕ → ℕ
weight_level (level.Name x) = 0
weight_level (level.Number k) = 0
weight_level (level.Truth b) = 0
weight_level (level.One o a) = suc a
weight_level (level.Two o a b) = suc (a + b)
weight_level (level.Cond a b c) = suc (a + (b + c))
weight_level (level.Call f args) = suc (total args + length args)

abbrev pub weight : Expr → ℕ
weight = fold-Expr ℕ ℕ weight_level (λ e. e.kind)

-- the node that an expression calls, where it is a call as a whole
abbrev pub called_level : ExprKind-F (Option Name) (Option Name) → Option Name
called_level (level.Name x) = None
called_level (level.Number k) = None
called_level (level.Truth b) = None
called_level (level.One o a) = None
called_level (level.Two o a b) = None
called_level (level.Cond a b c) = None
called_level (level.Call f args) = Some f

abbrev pub called : Expr → Option Name
called = fold-Expr (Option Name) (Option Name) called_level (λ e. e.kind)
