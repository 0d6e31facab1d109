-- What is made of a name or a literal.
use Rattle.std.proofs.Common.{◌≡◌, ℕ, ◌+◌, if◌then◌else◌, List, [], ◌∷◌, ◌++◌, length, refl, sym, ap, ◌∙◌, arith, append-nil, is_some}
use Rattle.std.specs.Prelude.{Option, Some, None, Result, Ok, Err, IfOk, OnOk}
use Rattle.lus_syntax.specs.declared.ast.Expr.{Expr}
use Rattle.lus_syntax.specs.declared.ast.ExprKind.TheVariants as tree
use Rattle.lus_types.specs.declared.types.Constant.{Constant}
use Rattle.op_network.specs.declared.value.Ty.{Ty}
use Rattle.op_network.specs.declared.value.Value.{Value}
use Rattle.lus_types.specs.Names.{Name}
use Rattle.lus_types.specs.Programs.{Node, Program, constant_with, or_outer, or_truth}
use Rattle.node_expand.specs.declared.making.Operand.{Operand}
use Rattle.node_expand.specs.declared.making.Work.{Work}
use Rattle.node_expand.specs.Counts.{own_count, own_count_level}
use Rattle.node_expand.specs.Fragments.{Callees, Gate, const_fragment, name_fragment, nodes_of, size_of_all}
use Rattle.node_expand.specs.Known.{inner_count, inner_level}
use Rattle.node_expand.specs.Making.{IsMade}
use Rattle.node_expand.specs.Names.{constant_in, unless_variable}
use Rattle.node_expand.proofs.Folds.{folded_name}

-- an edge that is there already
pub there : (callees : Callees) (ty : Ty) (place : ℕ) (w : Work) (o : Operand) → o.edge ≡ place → o.ty ≡ ty
    → IsMade callees (record { values = place ∷ []; ty = ty; own = []; calls = [] }) w w o
there callees ty place w o e f = record { edge = e; ty = f; own = sym (append-nil w.gates); calls = sym (append-nil w.calls); inner = omega arith }

-- the type of a constant is that of its name
pub constant_type : (t o : Option Ty) (v : Value) (c : Constant) → unless_variable t (constant_with o v) ≡ Some c → or_truth (or_outer t o) ≡ c.ty
constant_type (Some ty) o v c h = absurd (cc h)
constant_type None None v c h = absurd (cc h)
constant_type None (Some ty) v c h = let e : record { ty = ty; value = v } ≡ c = cc in ap (λ (k : Constant). k.ty) e

-- nothing known of callees
nobody : Callees
nobody = record { size = λ g. 0; results = λ g start. []; asserts = λ g start. []; edges = λ g args prefix asserted start. [] }

length_append : {A : Type 0} (xs ys : List A) → length (xs ++ ys) ≡ length xs + length ys
length_append [] ys = omega arith
length_append (x ∷ xs) ys = let h = length_append xs ys in omega (arith, h)

-- how long the lists are behind a literal
pub const_long : {E : Type 0} (count : ℕ) (at : ℕ) (gate : Gate) (w new : Work) (r : Result Operand E) → count ≡ 1
    → ((callees : Callees) → IfOk r (λ o. IsMade callees (const_fragment gate at) w new o)) → OnOk r (length new.gates ≡ length w.gates + count)
const_long count at gate w new (Ok o) one h = ap (λ (l : List Gate). length l) (h nobody).own ∙ length_append w.gates _ ∙ ap (λ i. length w.gates + i) (sym one)
const_long count at gate w new (Err m) one h = tt

pub const_behind : {E : Type 0} (count : ℕ) (at : ℕ) (gate : Gate) (w new : Work) (r : Result Operand E) → count ≡ 0
    → ((callees : Callees) → IfOk r (λ o. IsMade callees (const_fragment gate at) w new o)) → OnOk r (new.inner ≡ w.inner + count)
const_behind count at gate w new (Ok o) none h = (h nobody).inner ∙ ap (λ i. w.inner + i) (sym none)
const_behind count at gate w new (Err m) none h = tt

own_of_name : (c : Option Constant) (ty : Ty) (place at : ℕ) → length (name_fragment c ty place at).own ≡ (if is_some c then 1 else 0)
own_of_name None ty place at = refl
own_of_name (Some c) ty place at = refl

no_calls : (c : Option Constant) (ty : Ty) (place at : ℕ) → (name_fragment c ty place at).calls ≡ []
no_calls None ty place at = refl
no_calls (Some c) ty place at = refl

-- and behind a name
pub name_long : {E : Type 0} (program : Program) (node : Node) (e : Expr) (x : Name) (ty : Ty) (place at : ℕ) (w new : Work) (r : Result Operand E) → e.kind ≡ tree.Name x
    → ((callees : Callees) → IfOk r (λ o. IsMade callees (name_fragment (constant_in program node x) ty place at) w new o))
    → OnOk r (length new.gates ≡ length w.gates + own_count program node e)
name_long program node e x ty place at w new (Ok o) k h =
    ap (λ (l : List Gate). length l) (h nobody).own ∙ length_append w.gates _
    ∙ ap (λ i. length w.gates + i) (own_of_name (constant_in program node x) ty place at ∙ sym (folded_name (own_count_level program node) e x k))
name_long program node e x ty place at w new (Err m) k h = tt

pub name_behind : {E : Type 0} (known : Callees) (program : Program) (node : Node) (e : Expr) (x : Name) (ty : Ty) (place at : ℕ) (w new : Work) (r : Result Operand E) → e.kind ≡ tree.Name x
    → ((callees : Callees) → IfOk r (λ o. IsMade callees (name_fragment (constant_in program node x) ty place at) w new o))
    → OnOk r (new.inner ≡ w.inner + inner_count known e)
name_behind known program node e x ty place at w new (Ok o) k h =
    (h nobody).inner ∙ ap (λ l. w.inner + size_of_all nobody (nodes_of l)) (no_calls (constant_in program node x) ty place at)
    ∙ ap (λ i. w.inner + i) (sym (folded_name (inner_level known) e x k))
name_behind known program node e x ty place at w new (Err m) k h = tt
