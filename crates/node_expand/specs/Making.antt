-- What is made of an expression, in code's lists.
use Rattle.std.specs.Prelude.{◌≡◌, ℕ, suc, ◌+◌, ◌≤◌, min, List, ◌++◌, map, length, Some}
use Rattle.std.specs.List.{AllByRecursion}
use Rattle.lus_syntax.specs.declared.ast.BinOp.{BinOp}
use Rattle.lus_syntax.specs.declared.ast.Expr.{Expr}
use Rattle.lus_syntax.specs.declared.ast.UnOp.{UnOp}
use Rattle.lus_types.specs.Names.{Name, globals}
use Rattle.lus_types.specs.Programs.{Node, Program, or_truth, type_of_name}
use Rattle.lus_types.specs.ProgramTypes.{IsTypedProgram}
use Rattle.node_expand.specs.declared.making.Operand.{Operand}
use Rattle.node_expand.specs.declared.making.Scope.{Scope}
use Rattle.node_expand.specs.declared.making.Work.{Work}
use Rattle.node_expand.specs.declared.right.Right.{Right}
use Rattle.node_expand.specs.declared.tables.Tables.{Tables}
use Rattle.lus_types.specs.declared.typed.Typed.{Typed}
use Rattle.op_network.specs.declared.edge.Op.TheVariants.{Const}
use Rattle.op_network.specs.declared.value.Ty.{Ty}
use Rattle.op_network.specs.declared.value.Value.{Value}
use Rattle.op_network.specs.declared.limits.TheConstants.{MOST_EDGES}
use Rattle.node_expand.specs.Counts.{own_count}
use Rattle.node_expand.specs.Fragments.{Callees, Fragment, const_fragment, Placing, first_place, fragment, name_fragment, nodes_of, place_all, place_binary, place_call, place_if, place_of, size_of_all, total, unary_fragment}
use Rattle.node_expand.specs.Headers.{heads, heads_seen, node_seen}
use Rattle.node_expand.specs.Known.{inner_count, known_callees}
use Rattle.node_expand.specs.Law.{program_in}
use Rattle.node_expand.specs.Names.{constant_in}
use Rattle.node_expand.specs.Nesting.{IsNested}
use Rattle.node_expand.specs.Network.{callees_within}
use Rattle.node_expand.specs.Outlines.{all_outlines, callee, measure_at}
use Rattle.node_expand.specs.declared.limits.TheConstants.{MANY}

-- ---- what a scope says

abbrev pub callees_in : Typed → Tables → Callees
callees_in typed tables = known_callees (globals typed.ast.decls) tables.sizes tables.results

abbrev pub program_of : Scope → Program
program_of scope = program_in scope.typed.now

abbrev pub node_of : Scope → Node
node_of scope = node_seen scope.header.now

abbrev pub callees_of : Scope → Callees
callees_of scope = callees_in scope.typed.now scope.tables.now

abbrev pub placing : Scope → Expr → Placing
placing scope = fragment (program_of scope) (node_of scope) (callees_of scope) scope.places.now

abbrev pub all_placing : Scope → List Expr → Placing
all_placing scope args = place_all (program_of scope) (node_of scope) (callees_of scope) scope.places.now (map (placing scope) args)

abbrev pub own : Scope → Expr → ℕ
own scope = own_count (program_of scope) (node_of scope)

abbrev pub inner : Scope → Expr → ℕ
inner scope = inner_count (callees_of scope)

abbrev pub own_of_all : Scope → List Expr → ℕ
own_of_all scope args = total (map (own scope) args)

abbrev pub inner_of_all : Scope → List Expr → ℕ
inner_of_all scope args = total (map (inner scope) args)

-- ---- what is made

-- behind what was made before stands what stands for an expression
pub record IsMade (callees : Callees) (f : Fragment) (old new : Work) (o : Operand) : Type 0 where
  pub edge : o.edge ≡ first_place f.values
  pub ty : o.ty ≡ f.ty
  pub own : new.gates ≡ old.gates ++ f.own
  pub calls : new.calls ≡ old.calls ++ f.calls
  pub inner : new.inner ≡ old.inner + size_of_all callees (nodes_of f.calls)

-- the operand stands for an expression whose own edges go behind those that were made, the first of all at `base`
abbrev pub Makes : Scope → Placing → ℕ → Work → Work → Operand → Type 0
Makes scope places base old new = λ o. IsMade (callees_of scope) (places (base + length old.gates) old.inner) old new o

-- so many own edges are made
abbrev pub IsLonger : Work → Work → ℕ → Type 0
IsLonger old new n = length new.gates ≡ length old.gates + n

-- so many edges of instances are made
abbrev pub IsFurther : Work → Work → ℕ → Type 0
IsFurther old new n = new.inner ≡ old.inner + n

-- and for arguments, whose edges go behind others
pub record AreMade (callees : Callees) (f : Fragment) (old new : Work) (before after : List ℕ) : Type 0 where
  pub values : after ≡ before ++ f.values
  pub own : new.gates ≡ old.gates ++ f.own
  pub calls : new.calls ≡ old.calls ++ f.calls
  pub inner : new.inner ≡ old.inner + size_of_all callees (nodes_of f.calls)

-- so the first edges of arguments go behind others
abbrev pub MakesAll : Scope → List Expr → ℕ → Work → Work → List ℕ → List ℕ → Type 0
MakesAll scope args base old new before after =
    AreMade (callees_of scope) (all_placing scope args (base + length old.gates) old.inner) old new before after

-- ---- the forms

abbrev pub const_at : Value → Ty → ℕ → Work → Fragment
const_at value ty base work = const_fragment (record { op = Const value; ty = ty }) (base + length work.gates)

abbrev pub unary_placing : Scope → UnOp → Expr → Placing
unary_placing scope op a = λ at inside. unary_fragment op at (placing scope a (suc at) inside)

abbrev pub own_of_two : Scope → Expr → Expr → ℕ
own_of_two scope a b = own scope a + own scope b

abbrev pub inner_of_two : Scope → Expr → Expr → ℕ
inner_of_two scope a b = inner scope a + inner scope b

abbrev pub own_of_three : Scope → Expr → Expr → Expr → ℕ
own_of_three scope a b c = own scope a + (own scope b + own scope c)

abbrev pub inner_of_three : Scope → Expr → Expr → Expr → ℕ
inner_of_three scope a b c = inner scope a + (inner scope b + inner scope c)

abbrev pub inner_of_call : Scope → Name → List Expr → ℕ
inner_of_call scope f args = (callees_of scope).size f + inner_of_all scope args

abbrev pub name_placing : Scope → Name → ℕ → Fragment
name_placing scope x at = name_fragment (constant_in (program_of scope) (node_of scope) x) (or_truth (type_of_name (program_of scope) (node_of scope) x)) (place_of scope.places.now x) at

abbrev pub binary_placing : Scope → BinOp → Expr → Expr → Placing
binary_placing scope op a b = place_binary (program_of scope) (node_of scope) (callees_of scope) scope.places.now op (placing scope a) (placing scope b)

abbrev pub if_placing : Scope → Expr → Expr → Expr → Placing
if_placing scope a b c = place_if (program_of scope) (node_of scope) (callees_of scope) scope.places.now (placing scope a) (placing scope b) (placing scope c)

abbrev pub call_placing : Scope → Name → List Expr → Placing
call_placing scope f args = place_call (program_of scope) (node_of scope) (callees_of scope) scope.places.now f (map (placing scope) args)

-- the right side of an item as code's lists have it
pub record IsRight (f : Fragment) (r : Right) : Type 0 where
  pub values : r.values ≡ f.values
  pub own : r.gates ≡ f.own
  pub calls : r.calls ≡ f.calls

-- ---- what is known of a program

-- both say the same of the size and the results of a node
pub record AgreesOn (c d : Callees) (f : Name) : Type 0 where
  pub size : c.size f ≡ d.size f
  pub results : (start : ℕ) → c.results f start ≡ d.results f start

-- The tables are those of the program: the variables and the outlines of its declarations; and they know the size and
-- the results of each node whose instances are small enough and whose calls aren't nested too deep.
pub record AreKnown (typed : Typed) (tables : Tables) : Type 0 where
  pub heads : heads_seen tables.headers ≡ heads (globals typed.ast.decls) typed.ast.decls
  pub outlines : tables.outlines ≡ all_outlines (program_in typed) (globals typed.ast.decls) typed.ast.decls
  pub program : IsTypedProgram (program_in typed)
  pub sizes : (f : Name) → IsNested (program_in typed) tables.depth f
      → measure_at tables.sizes (callee (globals typed.ast.decls) f) ≡ Some (min ((callees_within (program_in typed) tables.depth).size f) MANY)
  pub callees : (f : Name) → IsNested (program_in typed) tables.depth f
      → (callees_within (program_in typed) tables.depth).size f ≤ MOST_EDGES
      → AgreesOn (callees_in typed tables) (callees_within (program_in typed) tables.depth) f

-- all that the program says of the nodes that may be called
abbrev pub callees_at : Typed → Tables → Callees
callees_at typed tables = callees_within (program_in typed) tables.depth

-- from each of these nodes calls are nested at most so deep
abbrev pub AreNested : Typed → ℕ → List Name → Type 0
AreNested typed depth nodes = AllByRecursion (IsNested (program_in typed) depth) nodes
