-- What the numbers of edges of items and nodes are made of, as code counts them.
use Rattle.std.specs.Prelude.{ℕ, zero, suc, ◌+◌, min, List, [], ◌∷◌, ◌++◌, map, replicate, length, Option, Some, None, slice_get}
use Rattle.std.specs.List.{flat_map}
use Rattle.lus_syntax.specs.declared.ast.Decl.{Decl}
use Rattle.lus_syntax.specs.declared.ast.Expr.{Expr, fold-Expr}
use Rattle.lus_syntax.specs.declared.ast.ExprKind.TheOpen.{ExprKind-F}
use Rattle.lus_syntax.specs.declared.ast.ExprKind.TheOpen as level
use Rattle.lus_syntax.specs.declared.ast.Item.{Item}
use Rattle.lus_types.specs.Names.{Name, Globals}
use Rattle.lus_types.specs.Occurrences.{flat}
use Rattle.lus_types.specs.Programs.{Node, Program, place_meant}
use Rattle.node_expand.specs.declared.limits.TheConstants.{MANY}
use Rattle.node_expand.specs.declared.outlines.Outline.{Outline}
use Rattle.node_expand.specs.Counts.{right_of, own_count, id_count}
use Rattle.node_expand.specs.Headers.{head_of, items_of}

-- ---- outlines

-- the place of the node that a name means, if it means one
abbrev pub callee : Globals → Name → Option ℕ
callee g x = place_meant (g x)

-- of the nodes that an expression calls, in pre-order
abbrev pub callees_level : Globals → ExprKind-F (List (Option ℕ)) (List (Option ℕ)) → List (Option ℕ)
callees_level g (level.Name x) = []
callees_level g (level.Number k) = []
callees_level g (level.Truth b) = []
callees_level g (level.One o a) = a
callees_level g (level.Two o a b) = a ++ b
callees_level g (level.Cond a b c) = a ++ (b ++ c)
callees_level g (level.Call f args) = callee g f ∷ flat_map (λ places. places) args

abbrev pub callees : Globals → Expr → List (Option ℕ)
callees g = fold-Expr (List (Option ℕ)) (List (Option ℕ)) (callees_level g) (λ e. e.kind)

abbrev pub outline : Program → Globals → Node → Item → Outline
outline program g node item = record {
  ids = min (id_count program node item) MANY;
  own = min (own_count program node (right_of item)) MANY;
  callees = callees g (right_of item);
}

abbrev pub outlines_of : Program → Globals → Decl → List Outline
outlines_of program g decl = map (outline program g (head_of g decl)) (items_of decl)

-- of all declarations, by their places
abbrev pub all_outlines : Program → Globals → List Decl → List (List Outline)
all_outlines program g decls = map (outlines_of program g) decls

-- ---- measures

-- How many edges something has, where `MANY` stands for any number from it on; or none, where calls are nested too
-- deep.
abbrev pub Measure : Type 0
Measure = Option ℕ

abbrev pub added : Measure → Measure → Measure
added None b = None
added (Some m) None = None
added (Some m) (Some n) = Some (min (m + n) MANY)

-- a measure and more of them together
abbrev pub all_added : Measure → List Measure → Measure
all_added m [] = m
all_added m (a ∷ more) = all_added (added m a) more

-- of the node at a place, by the measures of all declarations
abbrev pub measure_at : List Measure → Option ℕ → Measure
measure_at table None = None
measure_at table (Some place) = flat (slice_get table place)

abbrev pub item_measure : List Measure → Outline → Measure
item_measure table o = all_added (added (Some o.ids) (Some o.own)) (map (measure_at table) o.callees)

abbrev pub node_measure : List Measure → List Outline → Measure
node_measure table outlines = all_added (Some 0) (map (item_measure table) outlines)

-- the measures where calls may be nested one deeper than in these
abbrev pub next_measures : List (List Outline) → List Measure → List Measure
next_measures outlines table = map (node_measure table) outlines

-- the measures where calls may be nested so deep
abbrev pub measures : List (List Outline) → ℕ → List Measure
measures outlines zero = replicate (length outlines) None
measures outlines (suc depth) = next_measures outlines (measures outlines depth)

-- the number that a measure stands for, or 0
abbrev pub number_of : Measure → ℕ
number_of None = 0
number_of (Some n) = n
