-- Frames that are computed edge by edge, in the order of a causal list.
use Rattle.std.proofs.Common.{◌≡◌, ◌≢◌, ⊎_elim, ℕ, suc, zero, ◌+◌, ◌<◌, ◌≤◌, List, [], ◌∷◌, length, take, set, refl, sym, ap, ◌∙◌, subst, arith, add-one}
use Rattle.std.proofs.Math.ListN.{length-set}
use Rattle.std.proofs.lemmas.Option.{slice_get_within}
use Rattle.std.specs.Prelude.{Option, Some, slice_get, false}
use Rattle.std.specs.List.{Contains}
use Rattle.op_network.specs.declared.edge.EdgeId.{EdgeId}
use Rattle.op_network.specs.declared.edge.Edge.{Edge}
use Rattle.op_network.specs.declared.form.Form.{Form}
use Rattle.op_network.specs.declared.form.Form.TheVariants.{Input, Const, One, Two, Ite, Arrow, Pre}
use Rattle.op_network.specs.declared.value.Value.{Value}
use Rattle.op_network.specs.declared.value.Value.TheVariants.{Truth}
use Rattle.op_network.specs.declared.value.Ty.{Ty}
use Rattle.op_network.specs.Operators.{form_of, at_edge, value_by, operator_value, unary_value, binary_value, if_value, arrow_value}
use Rattle.op_network.specs.Run.{IsFrame}
use Rattle.lus_causality.specs.Causality.{operands_now_by, operands_now, operands_now_in, IsCausal, IsFull}
use Rattle.lus_causality.proofs.Places.{first as at_first, later, none}
use Rattle.lus_causality.proofs.Causal.{place_below, more_taken}
use Rattle.lus_causality.proofs.Chains.{set_other}
use Rattle.lus_causality.proofs.Reading.{take_one, take_whole}

-- the edges of a list have the values of their operators
pub record Computed (width : ℕ) (edges : List Edge) (before : Option (List Value)) (inputs : List Value) (done : List EdgeId) (now : List Value) : Type 0 where
  pub size : length now ≡ length edges
  pub values : (e : EdgeId) → Contains done e → (edge : Edge) → slice_get edges e.0 ≡ Some edge → slice_get now e.0 ≡ Some (operator_value width edge.op edge.ty before now inputs)

-- a value depends on the operands at the instant alone
pub value_same : (form : Form) (width : ℕ) (ty : Ty) (before : Option (List Value)) (now now' inputs : List Value) → ((o : EdgeId) → Contains (operands_now_by form) o → at_edge now' o ≡ at_edge now o) → value_by width form ty before now' inputs ≡ value_by width form ty before now inputs
value_same (Input i) width ty before now now' inputs h = refl
value_same (Const v) width ty before now now' inputs h = refl
value_same (One op a) width ty before now now' inputs h = ap (λ v. unary_value width op v) (h a (at_first a a [] refl))
value_same (Two op a b) width ty before now now' inputs h =
    ap (λ v. binary_value width op v (at_edge now' b)) (h a (at_first a a (b ∷ []) refl)) ∙
    ap (λ v. binary_value width op (at_edge now a) v) (h b (later b a (b ∷ []) (at_first b b [] refl)))
value_same (Ite a b c) width ty before now now' inputs h =
    ap (λ v. if_value v (at_edge now' b) (at_edge now' c)) (h a (at_first a a (b ∷ c ∷ []) refl)) ∙
    (ap (λ v. if_value (at_edge now a) v (at_edge now' c)) (h b (later b a (b ∷ c ∷ []) (at_first b b (c ∷ []) refl))) ∙
    ap (λ v. if_value (at_edge now a) (at_edge now b) v) (h c (later c a (b ∷ c ∷ []) (later c b (c ∷ []) (at_first c c [] refl)))))
value_same (Arrow a b) width ty before now now' inputs h =
    ap (λ v. arrow_value before v (at_edge now' b)) (h a (at_first a a (b ∷ []) refl)) ∙
    ap (λ v. arrow_value before (at_edge now a) v) (h b (later b a (b ∷ []) (at_first b b [] refl)))
value_same (Pre a) width ty before now now' inputs h = refl

pub get_other : (xs : List Value) (i j : ℕ) (v : Value) → i ≢ j → slice_get (set xs j v) i ≡ slice_get xs i
get_other [] i j v apart = refl
get_other (x ∷ xs) zero zero v apart = absurd (apart refl)
get_other (x ∷ xs) zero (suc j) v apart = refl
get_other (x ∷ xs) (suc i) zero v apart = refl
get_other (x ∷ xs) (suc i) (suc j) v apart = get_other xs i j v (λ e. apart (ap suc e))

pub get_here : (xs : List Value) (j : ℕ) (v : Value) → j < length xs → slice_get (set xs j v) j ≡ Some v
get_here [] j v lt = absurd (omega (arith, lt))
get_here (x ∷ xs) zero v lt = refl
get_here (x ∷ xs) (suc j) v lt = get_here xs j v (omega (arith, lt))

one_edge : {edge edge' : Edge} {o : Option Edge} → o ≡ Some edge → o ≡ Some edge' → edge ≡ edge'
one_edge h k = cc

pub operands_at : (edges : List Edge) (e : EdgeId) (edge : Edge) → slice_get edges e.0 ≡ Some edge → operands_now edges e ≡ operands_now_by (form_of edge.op)
operands_at edges e edge is = ap operands_now_in is

-- one more edge is computed
pub next : (width : ℕ) (edges : List Edge) (before : Option (List Value)) (inputs : List Value) (list : List EdgeId) (i : ℕ) (e : EdgeId) (edge : Edge) (now now' : List Value) → IsCausal edges list → slice_get list i ≡ Some e → slice_get edges e.0 ≡ Some edge → now' ≡ set now e.0 (operator_value width edge.op edge.ty before now inputs) → Computed width edges before inputs (take i list) now → Computed width edges before inputs (take (i + 1) list) now'
next width edges before inputs list i e edge now now' causal at_i found is_set c =
    subst (λ n. Computed width edges before inputs (take n list) now') (sym (add-one i))
    (subst (Computed width edges before inputs (take (suc i) list)) (sym is_set) (record {
      size = length-set now e.0 value ∙ c.size;
      values = λ f h other is. ⊎_elim (λ same. this f other same is) (λ k. rest f other k is) (take_one f list i e at_i h);
    }))
  where
    value : Value
    value = operator_value width edge.op edge.ty before now inputs

    apart : (o : EdgeId) → Contains (take i list) o → o.0 ≢ e.0
    apart o h same = (causal i e at_i).new (let s : o ≡ e = ap (λ n. record { 0 = n }) same in subst (λ (x : EdgeId). Contains (take i list) x) s h)

    kept : (form : Form) (ty : Ty) → ((o : EdgeId) → Contains (operands_now_by form) o → Contains (take i list) o) → value_by width form ty before (set now e.0 value) inputs ≡ value_by width form ty before now inputs
    kept form ty all = value_same form width ty before now (set now e.0 value) inputs (λ o h. set_other now o.0 e.0 value (Truth false) (apart o (all o h)))

    closed : (f : EdgeId) (other : Edge) → Contains (take i list) f → slice_get edges f.0 ≡ Some other → (o : EdgeId) → Contains (operands_now_by (form_of other.op)) o → Contains (take i list) o
    closed f other h is o k =
        let p = place_below f list i h in
        more_taken o list p.0 i p.1 ((causal p.0 f p.2).operands o (subst (λ l. Contains l o) (sym (operands_at edges f other is)) k))

    this : (f : EdgeId) (other : Edge) → f ≡ e → slice_get edges f.0 ≡ Some other → slice_get (set now e.0 value) f.0 ≡ Some (operator_value width other.op other.ty before (set now e.0 value) inputs)
    this f other same is =
        let at_e : slice_get edges e.0 ≡ Some other = subst (λ (x : EdgeId). slice_get edges x.0 ≡ Some other) same is in
        let one : edge ≡ other = one_edge found at_e in
        let k : slice_get (set now e.0 value) e.0 ≡ Some (operator_value width edge.op edge.ty before (set now e.0 value) inputs) = get_here now e.0 value (subst (λ n. e.0 < n) (sym c.size) (causal i e at_i).within) ∙ ap Some (sym (kept (form_of edge.op) edge.ty (λ o h. (causal i e at_i).operands o (subst (λ l. Contains l o) (sym (operands_at edges e edge found)) h)))) in
        subst (λ (x : EdgeId). slice_get (set now e.0 value) x.0 ≡ Some (operator_value width other.op other.ty before (set now e.0 value) inputs)) (sym same) (subst (λ (x : Edge). slice_get (set now e.0 value) e.0 ≡ Some (operator_value width x.op x.ty before (set now e.0 value) inputs)) one k)

    rest : (f : EdgeId) (other : Edge) → Contains (take i list) f → slice_get edges f.0 ≡ Some other → slice_get (set now e.0 value) f.0 ≡ Some (operator_value width other.op other.ty before (set now e.0 value) inputs)
    rest f other k is = get_other now f.0 e.0 value (apart f k) ∙ c.values f k other is ∙ ap Some (sym (kept (form_of other.op) other.ty (closed f other k is)))

pub found_at : {A : Type 0} (xs : List A) (i : ℕ) → i < length xs → (x : A) × (slice_get xs i ≡ Some x)
found_at [] i lt = absurd (omega (arith, lt))
found_at (x ∷ xs) zero lt = (x, refl)
found_at (x ∷ xs) (suc i) lt = found_at xs i (omega (arith, lt))

-- nothing is computed yet
pub started : (width : ℕ) (edges : List Edge) (before : Option (List Value)) (inputs : List Value) (list : List EdgeId) (now : List Value) → length now ≡ length edges → Computed width edges before inputs (take 0 list) now
started width edges before inputs [] now size = record { size = size; values = λ e h edge is. none e h }
started width edges before inputs (x ∷ list) now size = record { size = size; values = λ e h edge is. none e h }

-- all edges are computed
pub finished : (width : ℕ) (edges : List Edge) (before : Option (List Value)) (inputs : List Value) (list : List EdgeId) (i : ℕ) (now : List Value) → IsFull edges list → length list ≤ i → Computed width edges before inputs (take i list) now → IsFrame width edges before inputs now
finished width edges before inputs list i now all full c = record {
  size = c.size;
  values = λ e edge found. c.values (record { 0 = e }) (subst (λ l. Contains l (record { 0 = e })) (sym (take_whole list i full)) (all (record { 0 = e }) (slice_get_within edges e edge found))) edge found;
}
