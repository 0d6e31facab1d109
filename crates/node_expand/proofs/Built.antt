-- What code makes of an expression, form by form.
use Rattle.std.proofs.Common.{◌≡◌, ℕ, zero, suc, ◌+◌, ◌-◌, ◌≤◌, get_or, drop, take, List, [], ◌∷◌, ◌++◌, length, map, refl, sym, ap, ap₂, ◌∙◌, subst, arith, append_assoc}
use Rattle.std.specs.Prelude.{Result, Ok, Err, OnOk, slice_set}
use Rattle.std.proofs.lemmas.List.{map-append}
use Rattle.lus_syntax.specs.declared.ast.Expr.{Expr}
use Rattle.lus_syntax.specs.declared.ast.UnOp.{UnOp}
use Rattle.lus_syntax.specs.declared.ast.BinOp.{BinOp}
use Rattle.lus_types.specs.Names.{Name}
use Rattle.lus_types.specs.Programs.{Node, Program, or_truth}
use Rattle.lus_types.specs.Types.{binary, ordinary_binary, ordinary_unary, unary}
use Rattle.op_network.specs.declared.edge.Op.TheVariants.{Ite}
use Rattle.op_network.specs.Operators.{if_type}
use Rattle.node_expand.specs.declared.making.Operand.{Operand}
use Rattle.node_expand.specs.declared.making.Work.{Work}
use Rattle.node_expand.specs.declared.parts.Gate.{Gate}
use Rattle.node_expand.specs.declared.parts.Call.{Call}
use Rattle.node_expand.specs.Fragments.{Callees, Fragment, Placing, Places, binary_fragment, edge, first_place, if_fragment, nodes_of, place_all, place_call, result_type, size_of_all, total, unary_fragment}
use Rattle.node_expand.specs.Making.{IsMade, AreMade}
use Rattle.node_expand.specs.Operators.{op_of_one, op_of_two}

length_append : {A : Type 0} (xs ys : List A) → length (xs ++ ys) ≡ length xs + length ys
length_append [] ys = omega arith
length_append (x ∷ xs) ys = let h = length_append xs ys in omega (arith, h)

total_append : (xs ys : List ℕ) → total (xs ++ ys) ≡ total xs + total ys
total_append [] ys = omega arith
total_append (x ∷ xs) ys = let h = total_append xs ys in omega (arith, h)

-- a gate that is set in its place
pub set_behind : {A : Type 0} (xs ys : List A) (x y : A) (i : ℕ) → i ≡ length xs → slice_set ((xs ++ x ∷ []) ++ ys) i y ≡ xs ++ y ∷ ys
set_behind [] ys x y zero e = refl
set_behind [] ys x y (suc i) e = absurd (omega (arith, e))
set_behind (z ∷ xs) ys x y zero e = absurd (omega (arith, e))
set_behind (z ∷ xs) ys x y (suc i) e = ap (λ l. z ∷ l) (set_behind xs ys x y i (omega (arith, e)))

-- the same making, from the same places
pub made_at : (callees : Callees) (A : Placing) {i j k l : ℕ} (old new : Work) (o : Operand) → i ≡ j → k ≡ l → IsMade callees (A i k) old new o → IsMade callees (A j l) old new o
made_at callees A {i} {j} {k} {l} old new o e f h = subst (λ x. IsMade callees (A j x) old new o) f (subst (λ x. IsMade callees (A x k) old new o) e h)

calls_append : (callees : Callees) (m k : Fragment) → size_of_all callees (nodes_of m.calls) + size_of_all callees (nodes_of k.calls) ≡ size_of_all callees (nodes_of (m.calls ++ k.calls))
calls_append callees m k = sym (ap (λ l. total (map callees.size l)) (map-append (λ (c : Call). c.node) m.calls k.calls) ∙ ap total (map-append callees.size (nodes_of m.calls) (nodes_of k.calls)) ∙ total_append (map callees.size (nodes_of m.calls)) (map callees.size (nodes_of k.calls)))

pub one_built : (callees : Callees) (op : UnOp) (A : Placing) (old mid aft new : Work) (later : Gate) (base root : ℕ) (a o : Operand)
    → mid.gates ≡ old.gates ++ later ∷ [] → mid.calls ≡ old.calls → mid.inner ≡ old.inner → root ≡ base + length old.gates
    → IsMade callees (A (base + length mid.gates) mid.inner) mid aft a
    → new.gates ≡ slice_set aft.gates (root - base) (record { op = op_of_one (ordinary_unary op) (edge a.edge); ty = or_truth (unary op a.ty) }) → new.calls ≡ aft.calls → new.inner ≡ aft.inner
    → o.edge ≡ root → o.ty ≡ or_truth (unary op a.ty)
    → IsMade callees (unary_fragment op (base + length old.gates) (A (suc (base + length old.gates)) old.inner)) old new o
one_built callees op A old mid aft new later base root a o gates calls inner is made put same_calls same_inner at ty =
    let longer : length mid.gates ≡ suc (length old.gates) = ap (λ (l : List Gate). length l) gates ∙ length_append old.gates (later ∷ []) ∙ omega arith in
    let m = A (suc (base + length old.gates)) old.inner in
    let h : IsMade callees m mid aft a = made_at callees A mid aft a (omega (arith, longer)) inner made in
    record {
      edge = at ∙ is;
      ty = ty ∙ ap (λ t. or_truth (unary op t)) h.ty;
      own = put ∙ ap (λ l. slice_set l (root - base) (record { op = op_of_one (ordinary_unary op) (edge a.edge); ty = or_truth (unary op a.ty) })) (h.own ∙ ap (λ l. l ++ m.own) gates)
          ∙ set_behind old.gates m.own later (record { op = op_of_one (ordinary_unary op) (edge a.edge); ty = or_truth (unary op a.ty) }) (root - base) (omega (arith, is))
          ∙ ap₂ (λ e t. old.gates ++ record { op = op_of_one (ordinary_unary op) (edge e); ty = or_truth (unary op t) } ∷ m.own) h.edge h.ty;
      calls = same_calls ∙ h.calls ∙ ap (λ l. l ++ m.calls) calls;
      inner = same_inner ∙ h.inner ∙ ap (λ k. k + size_of_all callees (nodes_of m.calls)) inner;
    }

pub two_built : (callees : Callees) (op : BinOp) (A B : Placing) (old mid aft end new : Work) (later : Gate) (base root : ℕ) (a b o : Operand)
    → mid.gates ≡ old.gates ++ later ∷ [] → mid.calls ≡ old.calls → mid.inner ≡ old.inner → root ≡ base + length old.gates
    → IsMade callees (A (base + length mid.gates) mid.inner) mid aft a
    → IsMade callees (B (base + length aft.gates) aft.inner) aft end b
    → new.gates ≡ slice_set end.gates (root - base) (record { op = op_of_two (ordinary_binary op) (edge a.edge) (edge b.edge); ty = or_truth (binary op a.ty b.ty) }) → new.calls ≡ end.calls → new.inner ≡ end.inner
    → o.edge ≡ root → o.ty ≡ or_truth (binary op a.ty b.ty)
    → IsMade callees (binary_fragment op (base + length old.gates) (A (suc (base + length old.gates)) old.inner) (B (suc (base + length old.gates) + length (A (suc (base + length old.gates)) old.inner).own) (old.inner + size_of_all callees (nodes_of (A (suc (base + length old.gates)) old.inner).calls)))) old new o
two_built callees op A B old mid aft end new later base root a b o gates calls inner is made next put same_calls same_inner at ty =
    let longer : length mid.gates ≡ suc (length old.gates) = ap (λ (l : List Gate). length l) gates ∙ length_append old.gates (later ∷ []) ∙ omega arith in
    let m = A (suc (base + length old.gates)) old.inner in
    let h : IsMade callees m mid aft a = made_at callees A mid aft a (omega (arith, longer)) inner made in
    let whole : length aft.gates ≡ length mid.gates + length m.own = ap (λ (l : List Gate). length l) h.own ∙ length_append mid.gates m.own in
    let k = B (suc (base + length old.gates) + length m.own) (old.inner + size_of_all callees (nodes_of m.calls)) in
    let g : IsMade callees k aft end b = made_at callees B aft end b (omega (arith, longer, whole)) (h.inner ∙ ap (λ i. i + size_of_all callees (nodes_of m.calls)) inner) next in
    let gate : Gate = record { op = op_of_two (ordinary_binary op) (edge a.edge) (edge b.edge); ty = or_truth (binary op a.ty b.ty) } in
    record {
      edge = at ∙ is;
      ty = ty ∙ ap₂ (λ t u. or_truth (binary op t u)) h.ty g.ty;
      own = put ∙ ap (λ l. slice_set l (root - base) gate) (g.own ∙ ap (λ l. l ++ k.own) (h.own ∙ ap (λ l. l ++ m.own) gates) ∙ append_assoc (old.gates ++ later ∷ []) m.own k.own)
          ∙ set_behind old.gates (m.own ++ k.own) later gate (root - base) (omega (arith, is))
          ∙ ap₂ (λ e t. old.gates ++ record { op = op_of_two (ordinary_binary op) (edge e) (edge b.edge); ty = or_truth (binary op t b.ty) } ∷ (m.own ++ k.own)) h.edge h.ty
          ∙ ap₂ (λ e t. old.gates ++ record { op = op_of_two (ordinary_binary op) (edge (first_place m.values)) (edge e); ty = or_truth (binary op m.ty t) } ∷ (m.own ++ k.own)) g.edge g.ty;
      calls = same_calls ∙ g.calls ∙ ap (λ l. l ++ k.calls) (h.calls ∙ ap (λ l. l ++ m.calls) calls) ∙ append_assoc old.calls m.calls k.calls;
      inner = same_inner ∙ g.inner ∙ ap (λ i. i + size_of_all callees (nodes_of k.calls)) (h.inner ∙ ap (λ i. i + size_of_all callees (nodes_of m.calls)) inner) ∙ (let e : (old.inner + size_of_all callees (nodes_of m.calls)) + size_of_all callees (nodes_of k.calls) ≡ old.inner + (size_of_all callees (nodes_of m.calls) + size_of_all callees (nodes_of k.calls)) = omega arith in e) ∙ ap (λ i. old.inner + i) (calls_append callees m k);
    }

pub if_built : (callees : Callees) (A B C : Placing) (old mid aft end last new : Work) (later : Gate) (base root : ℕ) (a b c o : Operand)
    → mid.gates ≡ old.gates ++ later ∷ [] → mid.calls ≡ old.calls → mid.inner ≡ old.inner → root ≡ base + length old.gates
    → IsMade callees (A (base + length mid.gates) mid.inner) mid aft a
    → IsMade callees (B (base + length aft.gates) aft.inner) aft end b
    → IsMade callees (C (base + length end.gates) end.inner) end last c
    → new.gates ≡ slice_set last.gates (root - base) (record { op = Ite (edge a.edge) (edge b.edge) (edge c.edge); ty = or_truth (if_type a.ty b.ty c.ty) }) → new.calls ≡ last.calls → new.inner ≡ last.inner
    → o.edge ≡ root → o.ty ≡ or_truth (if_type a.ty b.ty c.ty)
    → IsMade callees (if_fragment (base + length old.gates) (A (suc (base + length old.gates)) old.inner)
    (B (suc (base + length old.gates) + length (A (suc (base + length old.gates)) old.inner).own) (old.inner + size_of_all callees (nodes_of (A (suc (base + length old.gates)) old.inner).calls)))
    (C (suc (base + length old.gates) + length (A (suc (base + length old.gates)) old.inner).own + length (B (suc (base + length old.gates) + length (A (suc (base + length old.gates)) old.inner).own) (old.inner + size_of_all callees (nodes_of (A (suc (base + length old.gates)) old.inner).calls))).own)
    (old.inner + size_of_all callees (nodes_of (A (suc (base + length old.gates)) old.inner).calls) + size_of_all callees (nodes_of (B (suc (base + length old.gates) + length (A (suc (base + length old.gates)) old.inner).own) (old.inner + size_of_all callees (nodes_of (A (suc (base + length old.gates)) old.inner).calls))).calls)))) old new o
if_built callees A B C old mid aft end last new later base root a b c o gates calls inner is made next third put same_calls same_inner at ty =
    let longer : length mid.gates ≡ suc (length old.gates) = ap (λ (l : List Gate). length l) gates ∙ length_append old.gates (later ∷ []) ∙ omega arith in
    let m = A (suc (base + length old.gates)) old.inner in
    let h : IsMade callees m mid aft a = made_at callees A mid aft a (omega (arith, longer)) inner made in
    let whole : length aft.gates ≡ length mid.gates + length m.own = ap (λ (l : List Gate). length l) h.own ∙ length_append mid.gates m.own in
    let k = B (suc (base + length old.gates) + length m.own) (old.inner + size_of_all callees (nodes_of m.calls)) in
    let inner_a : aft.inner ≡ old.inner + size_of_all callees (nodes_of m.calls) = h.inner ∙ ap (λ i. i + size_of_all callees (nodes_of m.calls)) inner in
    let g : IsMade callees k aft end b = made_at callees B aft end b (omega (arith, longer, whole)) inner_a next in
    let more : length end.gates ≡ length aft.gates + length k.own = ap (λ (l : List Gate). length l) g.own ∙ length_append aft.gates k.own in
    let inner_b : end.inner ≡ old.inner + size_of_all callees (nodes_of m.calls) + size_of_all callees (nodes_of k.calls) = g.inner ∙ ap (λ i. i + size_of_all callees (nodes_of k.calls)) inner_a in
    let x = C (suc (base + length old.gates) + length m.own + length k.own) (old.inner + size_of_all callees (nodes_of m.calls) + size_of_all callees (nodes_of k.calls)) in
    let f : IsMade callees x end last c = made_at callees C end last c (omega (arith, longer, whole, more)) inner_b third in
    let gate : Gate = record { op = Ite (edge a.edge) (edge b.edge) (edge c.edge); ty = or_truth (if_type a.ty b.ty c.ty) } in
    record {
      edge = at ∙ is;
      ty = ty ∙ ap₂ (λ t u. or_truth (if_type t u c.ty)) h.ty g.ty ∙ ap (λ t. or_truth (if_type m.ty k.ty t)) f.ty;
      own = put ∙ ap (λ l. slice_set l (root - base) gate) (f.own ∙ ap (λ l. l ++ x.own) (g.own ∙ ap (λ l. l ++ k.own) (h.own ∙ ap (λ l. l ++ m.own) gates)) ∙ append_assoc ((old.gates ++ later ∷ []) ++ m.own) k.own x.own ∙ append_assoc (old.gates ++ later ∷ []) m.own (k.own ++ x.own))
          ∙ set_behind old.gates (m.own ++ (k.own ++ x.own)) later gate (root - base) (omega (arith, is))
          ∙ ap₂ (λ e t. old.gates ++ record { op = Ite (edge e) (edge b.edge) (edge c.edge); ty = or_truth (if_type t b.ty c.ty) } ∷ (m.own ++ (k.own ++ x.own))) h.edge h.ty
          ∙ ap₂ (λ e t. old.gates ++ record { op = Ite (edge (first_place m.values)) (edge e) (edge c.edge); ty = or_truth (if_type m.ty t c.ty) } ∷ (m.own ++ (k.own ++ x.own))) g.edge g.ty
          ∙ ap₂ (λ e t. old.gates ++ record { op = Ite (edge (first_place m.values)) (edge (first_place k.values)) (edge e); ty = or_truth (if_type m.ty k.ty t) } ∷ (m.own ++ (k.own ++ x.own))) f.edge f.ty;
      calls = same_calls ∙ f.calls ∙ ap (λ l. l ++ x.calls) (g.calls ∙ ap (λ l. l ++ k.calls) (h.calls ∙ ap (λ l. l ++ m.calls) calls)) ∙ append_assoc (old.calls ++ m.calls) k.calls x.calls ∙ append_assoc old.calls m.calls (k.calls ++ x.calls);
      inner = same_inner ∙ f.inner ∙ ap (λ i. i + size_of_all callees (nodes_of x.calls)) inner_b
          ∙ (let e : (old.inner + size_of_all callees (nodes_of m.calls) + size_of_all callees (nodes_of k.calls)) + size_of_all callees (nodes_of x.calls) ≡ old.inner + (size_of_all callees (nodes_of m.calls) + (size_of_all callees (nodes_of k.calls) + size_of_all callees (nodes_of x.calls))) = omega arith in e)
          ∙ ap (λ i. old.inner + (size_of_all callees (nodes_of m.calls) + i)) (calls_append callees k x)
          ∙ ap (λ i. old.inner + i) (calls_append callees m (record { values = []; ty = k.ty; own = []; calls = k.calls ++ x.calls }));
    }

-- a call, whose arguments were made behind its own place
pub call_built : (program : Program) (node : Node) (callees : Callees) (places : Places) (g : Name) (args : List Placing) (old mid aft new : Work) (later : Call) (values : List ℕ) (base place : ℕ) (o : Operand)
    → mid.gates ≡ old.gates → mid.calls ≡ old.calls ++ later ∷ [] → mid.inner ≡ old.inner + callees.size g → place ≡ length old.calls
    → AreMade callees (place_all program node callees places args (base + length mid.gates) mid.inner) mid aft [] values
    → new.gates ≡ aft.gates → new.calls ≡ slice_set aft.calls place (record { node = g; args = values }) → new.inner ≡ aft.inner
    → o.edge ≡ first_place (callees.results g old.inner) → o.ty ≡ result_type (program.node g)
    → IsMade callees (place_call program node callees places g args (base + length old.gates) old.inner) old new o
call_built program node callees places g args old mid aft new later values base place o gates calls inner is made same_gates put same_inner at ty =
    let m = place_all program node callees places args (base + length old.gates) (old.inner + callees.size g) in
    let h : AreMade callees m mid aft [] values = subst (λ i. AreMade callees (place_all program node callees places args (base + length old.gates) i) mid aft [] values) inner (subst (λ (l : List Gate). AreMade callees (place_all program node callees places args (base + length l) mid.inner) mid aft [] values) gates made) in
    record {
      edge = at;
      ty = ty;
      own = same_gates ∙ h.own ∙ ap (λ l. l ++ m.own) gates;
      calls = put ∙ ap (λ l. slice_set l place (record { node = g; args = values })) (h.calls ∙ ap (λ l. l ++ m.calls) calls)
          ∙ set_behind old.calls m.calls later (record { node = g; args = values }) place is
          ∙ ap (λ v. old.calls ++ record { node = g; args = v } ∷ m.calls) h.values;
      inner = same_inner ∙ h.inner ∙ ap (λ i. i + size_of_all callees (nodes_of m.calls)) inner ∙ omega arith;
    }

-- one more argument
pub args_built : (program : Program) (node : Node) (callees : Callees) (places : Places) (A : Placing) (args : List Placing) (old mid new : Work) (before during after : List ℕ) (base : ℕ) (a : Operand)
    → IsMade callees (A (base + length old.gates) old.inner) old mid a → during ≡ before ++ a.edge ∷ []
    → AreMade callees (place_all program node callees places args (base + length mid.gates) mid.inner) mid new during after
    → AreMade callees (place_all program node callees places (A ∷ args) (base + length old.gates) old.inner) old new before after
args_built program node callees places A args old mid new before during after base a h one made =
    let m = A (base + length old.gates) old.inner in
    let whole : length mid.gates ≡ length old.gates + length m.own = ap (λ (l : List Gate). length l) h.own ∙ length_append old.gates m.own in
    let k = place_all program node callees places args (base + length old.gates + length m.own) (old.inner + size_of_all callees (nodes_of m.calls)) in
    let at : base + length mid.gates ≡ base + length old.gates + length m.own = omega (arith, whole) in
    let g : AreMade callees k mid new during after = subst (λ i. AreMade callees (place_all program node callees places args (base + length old.gates + length m.own) i) mid new during after) h.inner (subst (λ i. AreMade callees (place_all program node callees places args i mid.inner) mid new during after) at made) in
    record {
      values = g.values ∙ ap (λ l. l ++ k.values) one ∙ append_assoc before (a.edge ∷ []) k.values ∙ ap (λ e. before ++ e ∷ k.values) h.edge;
      own = g.own ∙ ap (λ l. l ++ k.own) h.own ∙ append_assoc old.gates m.own k.own;
      calls = g.calls ∙ ap (λ l. l ++ k.calls) h.calls ∙ append_assoc old.calls m.calls k.calls;
      inner = g.inner ∙ ap (λ i. i + size_of_all callees (nodes_of k.calls)) h.inner ∙ (let e : (old.inner + size_of_all callees (nodes_of m.calls)) + size_of_all callees (nodes_of k.calls) ≡ old.inner + (size_of_all callees (nodes_of m.calls) + size_of_all callees (nodes_of k.calls)) = omega arith in e) ∙ ap (λ i. old.inner + i) (calls_append callees m k);
    }

-- a list that is not empty
take_whole : {A : Type 0} (xs : List A) (n : ℕ) → n ≡ length xs → take n xs ≡ xs
take_whole [] zero e = refl
take_whole [] (suc n) e = refl
take_whole (x ∷ xs) zero e = absurd (omega (arith, e))
take_whole (x ∷ xs) (suc n) e = ap (λ l. x ∷ l) (take_whole xs n (omega (arith, e)))

pub split_first : (es : List Expr) (e : Expr) → 1 ≤ length es → e ≡ get_or es 0 e → es ≡ e ∷ take (length es - 1) (drop 1 es)
split_first [] e some is = absurd (omega (arith, some))
split_first (x ∷ es) e some is = ap₂ (λ y l. y ∷ l) (sym is) (sym (take_whole es (length (x ∷ es) - 1) (omega arith)))

pub args_done : {E : Type 0} (program : Program) (node : Node) (callees : Callees) (places : Places) (f : Expr → Placing) (es rest : List Expr) (e : Expr) (r : Result (Unit {0}) E) (old mid new : Work) (before during after : List ℕ) (base : ℕ) (a : Operand)
    → es ≡ e ∷ rest → IsMade callees (f e (base + length old.gates) old.inner) old mid a → during ≡ before ++ a.edge ∷ []
    → OnOk r (AreMade callees (place_all program node callees places (map f rest) (base + length mid.gates) mid.inner) mid new during after)
    → OnOk r (AreMade callees (place_all program node callees places (map f es) (base + length old.gates) old.inner) old new before after)
args_done program node callees places f es rest e (Ok u) old mid new before during after base a is h one made = subst (λ l. AreMade callees (place_all program node callees places (map f l) (base + length old.gates) old.inner) old new before after) (sym is) (args_built program node callees places (f e) (map f rest) old mid new before during after base a h one made)
args_done program node callees places f es rest e (Err m) old mid new before during after base a is h one made = tt

pub sum_done : {E : Type 0} (count : Expr → ℕ) (es rest : List Expr) (e : Expr) (r : Result (Unit {0}) E) (x y z : ℕ) → es ≡ e ∷ rest → y ≡ x + count e → OnOk r (z ≡ y + total (map count rest)) → OnOk r (z ≡ x + total (map count es))
sum_done count es rest e (Ok u) x y z is one more = let whole : total (map count es) ≡ count e + total (map count rest) = ap (λ l. total (map count l)) is in omega (arith, one, more, whole)
sum_done count es rest e (Err m) x y z is one more = tt
