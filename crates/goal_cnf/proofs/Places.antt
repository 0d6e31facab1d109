-- The literal of one place of a path tells whether the path up to there is active.
use Rattle.std.proofs.Common.{◌≡◌, ◌==◌, ℕ, zero, suc, Bool, true, false, not, ◌&&◌, ◌||◌, refl, sym, ap, ap₂, ◌∙◌, inl, inr, arith, Option, Some, None}
use Rattle.std.specs.Prelude.{slice_get, nat_le}
use Rattle.std.specs.Option.{option_map_or}
use Rattle.std.proofs.lemmas.Bool.{cases_Bool}
use Rattle.std.proofs.lemmas.Bool.Decides.{nat_tests}
use Rattle.cnf_form.specs.declared.lit.Lit.{Lit}
use Rattle.cnf_form.specs.Lits.{truth, turned}
use Rattle.cnf_form.proofs.LitFacts.{truth-turned}
use Rattle.op_network.specs.declared.edge.Edge.{Edge}
use Rattle.op_network.specs.declared.edge.EdgeId.{EdgeId}
use Rattle.op_network.specs.declared.edge.Parts.{Parts}
use Rattle.op_network.specs.declared.form.Binary.{Binary}
use Rattle.op_network.specs.declared.form.Binary.TheVariants as two
use Rattle.op_network.specs.declared.form.Form.{Form}
use Rattle.op_network.specs.declared.form.Form.TheVariants.{Input, Const, One, Two, Ite, Arrow, Pre}
use Rattle.op_network.specs.declared.value.Ty.{Ty}
use Rattle.op_network.specs.declared.value.Ty.TheVariants as type
use Rattle.op_network.specs.Operators.{form_of, at_edge, binary_step, is_chosen, step_by}
use Rattle.op_network.specs.Valid.{type_of, GivesType, IsValid}
use Rattle.op_network.specs.Values.{is_true}
use Rattle.bit_blast.specs.Circuit.{after}
use Rattle.bit_blast.proofs.Values.{Obeys}
use Rattle.bit_blast.proofs.Circuits.{obeys_parts, truth-yes, truth-no}
use Rattle.unroll_cnf.specs.Laws.{frame_of}
use Rattle.unroll_cnf.specs.Unrolled.{Table, only}
use Rattle.unroll_cnf.proofs.Bits.{only_value}
use Rattle.unroll_cnf.proofs.Edges.{SizedAt}
use Rattle.unroll_cnf.proofs.Operators.{over_types}
use Rattle.unroll_cnf.proofs.Runs.{reads_own, edge_typed}
use Rattle.unroll_cnf.proofs.Typed.{binary_typed, if_typed}
use Rattle.dep_paths.specs.declared.path.Path.{Path}
use Rattle.dep_paths.specs.declared.path.Pin.{Pin}
use Rattle.dep_paths.specs.declared.path.Step.{Step}
use Rattle.dep_paths.specs.Activation.{Frames, frame_at, passes_by, passes, has_truth, is_pinned}
use Rattle.goal_cnf.specs.Activity.{with_literal, with_either, binary_condition, if_condition, condition_by, begin_by, as_pinned, pin_circuit, place_in}

-- ---- truths

pub and_swap : (a b : Bool) → (a && b) ≡ (b && a)
and_swap true true = refl
and_swap true false = refl
and_swap false true = refl
and_swap false false = refl

and_false : (a : Bool) → false ≡ (a && false)
and_false true = refl
and_false false = refl

-- ---- gates

pub literal_law : (v : ℕ → Bool) (n : ℕ) (m u : Lit) → Obeys v n (with_literal n m u).entries → truth v (with_literal n m u).result ≡ (truth v u && truth v m)
literal_law v n m u o = truth-yes v n ∙ (o.0 ∙ and_swap (truth v m) (truth v u))

either_law : (v : ℕ → Bool) (n : ℕ) (m a b : Lit) → Obeys v n (with_either n m a b).entries → truth v (with_either n m a b).result ≡ ((truth v a || truth v b) && truth v m)
either_law v n m a b o =
    truth-yes v (suc n)
    ∙ (o.1.0
    ∙ (ap (λ x. truth v m && x) (truth-yes v n ∙ o.0)
    ∙ and_swap (truth v m) (truth v a || truth v b)))

binary_law : (v : ℕ → Bool) (n : ℕ) (o : Binary) (port : ℕ) (a b m : Lit) → Obeys v n (binary_condition n o port a b m).entries → truth v (binary_condition n o port a b m).result ≡ (binary_step o port (truth v a) (truth v b) && truth v m)
binary_law v n two.And zero a b m o = either_law v n m (turned a) b o ∙ ap (λ x. (x || truth v b) && truth v m) (truth-turned v a)
binary_law v n two.And (suc port) a b m o = either_law v n m (turned b) a o ∙ ap (λ x. (x || truth v a) && truth v m) (truth-turned v b)
binary_law v n two.Or zero a b m o = either_law v n m a (turned b) o ∙ ap (λ x. (truth v a || x) && truth v m) (truth-turned v b)
binary_law v n two.Or (suc port) a b m o = either_law v n m b (turned a) o ∙ ap (λ x. (truth v b || x) && truth v m) (truth-turned v a)
binary_law v n two.Imp zero a b m o =
    either_law v n m (turned a) (turned b) o
    ∙ ap₂ (λ x y. (x || y) && truth v m) (truth-turned v a) (truth-turned v b)
binary_law v n two.Imp (suc port) a b m o = either_law v n m b a o
binary_law v n two.Xor port a b m o = refl
binary_law v n two.Eq port a b m o = refl
binary_law v n two.Ne port a b m o = refl
binary_law v n two.Lt port a b m o = refl
binary_law v n two.Le port a b m o = refl
binary_law v n two.Gt port a b m o = refl
binary_law v n two.Ge port a b m o = refl
binary_law v n two.Add port a b m o = refl
binary_law v n two.Sub port a b m o = refl
binary_law v n two.Mul port a b m o = refl

if_law : (v : ℕ → Bool) (n port : ℕ) (a m : Lit) → Obeys v n (if_condition n port a m).entries → truth v (if_condition n port a m).result ≡ (is_chosen port (truth v a) && truth v m)
if_law v n zero a m o = refl
if_law v n (suc zero) a m o = literal_law v n m a o
if_law v n (suc (suc port)) a m o = literal_law v n m (turned a) o ∙ ap (λ x. x && truth v m) (truth-turned v a)

-- ---- edges

-- the operands of an operator that has a condition are truths
abbrev pub OverTruths : Parts → Binary → EdgeId → EdgeId → Type 0
OverTruths parts two.And a b = (type_of parts.edges a ≡ Some type.Truth) × (type_of parts.edges b ≡ Some type.Truth)
OverTruths parts two.Or a b = (type_of parts.edges a ≡ Some type.Truth) × (type_of parts.edges b ≡ Some type.Truth)
OverTruths parts two.Imp a b = (type_of parts.edges a ≡ Some type.Truth) × (type_of parts.edges b ≡ Some type.Truth)
OverTruths parts _ a b = Unit {0}

both_truths : (x y : Option Ty) (a b ty : Ty) → x ≡ Some a → y ≡ Some b → (a ≡ type.Truth) × (b ≡ type.Truth) → (x ≡ Some type.Truth) × (y ≡ Some type.Truth)
both_truths x y a b ty p q e = (p ∙ ap Some e.0, q ∙ ap Some e.1)

pub over_truths : (parts : Parts) (o : Binary) (a b : EdgeId) (ty : Ty) → GivesType parts (Two o a b) ty → OverTruths parts o a b
over_truths parts two.And a b ty g =
    let k = binary_typed two.And (type_of parts.edges a) (type_of parts.edges b) ty g in
    let e = over_types type.Truth type.Truth k.0 k.1 ty k.4 in
    both_truths (type_of parts.edges a) (type_of parts.edges b) k.0 k.1 ty k.2 k.3 (e.0, e.1)
over_truths parts two.Or a b ty g =
    let k = binary_typed two.Or (type_of parts.edges a) (type_of parts.edges b) ty g in
    let e = over_types type.Truth type.Truth k.0 k.1 ty k.4 in
    both_truths (type_of parts.edges a) (type_of parts.edges b) k.0 k.1 ty k.2 k.3 (e.0, e.1)
over_truths parts two.Imp a b ty g =
    let k = binary_typed two.Imp (type_of parts.edges a) (type_of parts.edges b) ty g in
    let e = over_types type.Truth type.Truth k.0 k.1 ty k.4 in
    both_truths (type_of parts.edges a) (type_of parts.edges b) k.0 k.1 ty k.2 k.3 (e.0, e.1)
over_truths parts two.Xor a b ty g = tt
over_truths parts two.Eq a b ty g = tt
over_truths parts two.Ne a b ty g = tt
over_truths parts two.Lt a b ty g = tt
over_truths parts two.Le a b ty g = tt
over_truths parts two.Gt a b ty g = tt
over_truths parts two.Ge a b ty g = tt
over_truths parts two.Add a b ty g = tt
over_truths parts two.Sub a b ty g = tt
over_truths parts two.Mul a b ty g = tt

-- a pin at this place is on an edge that is a Truth
abbrev pub PinFits : Parts → Option Pin → ℕ → EdgeId → Type 0
PinFits parts None place e = Unit {0}
PinFits parts (Some pin) place e = place ≡ pin.place → type_of parts.edges e ≡ Some type.Truth

-- each pin of a path is
pub record PinsFit (parts : Parts) (pin : Option Pin) (p : Path) : Type 0 where
  pub first : PinFits parts pin 0 p.start
  pub later : (i : ℕ) (s : Step) → slice_get p.steps i ≡ Some s → PinFits parts pin (suc i) s.edge

-- the words of a table have the sizes of their types
abbrev pub AllSized : Parts → Table → Type 0
AllSized parts now = (e : EdgeId) → SizedAt parts now e

-- the literal of the instant before tells the activity at it; at instant 0 there is none
abbrev pub TellsBefore : (ℕ → Bool) → (ℕ → Bool) → ℕ → Option Lit → Type 0
TellsBefore v act zero None = Unit {0}
TellsBefore v act zero (Some l) = ⊥
TellsBefore v act (suc t) None = ⊥
TellsBefore v act (suc t) (Some l) = truth v l ≡ act t

module _ (parts : Parts) (v : ℕ → Bool) (now : Table) (sized : AllSized parts now) where
  pub truth_at : (e : EdgeId) → type_of parts.edges e ≡ Some type.Truth → truth v (only (now e.0)) ≡ is_true (at_edge (frame_of parts v now) e)
  truth_at e t = only_value v (now e.0) (sized e type.Truth t) ∙ sym (ap is_true (reads_own parts v now e type.Truth t))

  pub pinned_law : (value : Bool) (e : EdgeId) → type_of parts.edges e ≡ Some type.Truth → truth v (as_pinned value (only (now e.0))) ≡ has_truth value (at_edge (frame_of parts v now) e)
  pinned_law true e t = only_value v (now e.0) (sized e type.Truth t) ∙ sym (ap (has_truth true) (reads_own parts v now e type.Truth t))
  pinned_law false e t =
      truth-turned v (only (now e.0))
      ∙ (ap not (only_value v (now e.0) (sized e type.Truth t)) ∙ sym (ap (has_truth false) (reads_own parts v now e type.Truth t)))

  binary_at : (n : ℕ) (o : Binary) (port : ℕ) (a b : EdgeId) (m : Lit) → OverTruths parts o a b → Obeys v n (condition_by n (Two o a b) port now m).entries → truth v (condition_by n (Two o a b) port now m).result ≡ (step_by (Two o a b) port (frame_of parts v now) && truth v m)
  binary_at n two.And port a b m h o = binary_law v n two.And port (only (now a.0)) (only (now b.0)) m o ∙ ap₂ (λ x y. binary_step two.And port x y && truth v m) (truth_at a h.0) (truth_at b h.1)
  binary_at n two.Or port a b m h o = binary_law v n two.Or port (only (now a.0)) (only (now b.0)) m o ∙ ap₂ (λ x y. binary_step two.Or port x y && truth v m) (truth_at a h.0) (truth_at b h.1)
  binary_at n two.Imp port a b m h o = binary_law v n two.Imp port (only (now a.0)) (only (now b.0)) m o ∙ ap₂ (λ x y. binary_step two.Imp port x y && truth v m) (truth_at a h.0) (truth_at b h.1)
  binary_at n two.Xor port a b m h o = refl
  binary_at n two.Eq port a b m h o = refl
  binary_at n two.Ne port a b m h o = refl
  binary_at n two.Lt port a b m h o = refl
  binary_at n two.Le port a b m h o = refl
  binary_at n two.Gt port a b m h o = refl
  binary_at n two.Ge port a b m h o = refl
  binary_at n two.Add port a b m h o = refl
  binary_at n two.Sub port a b m h o = refl
  binary_at n two.Mul port a b m h o = refl

  module _ (one_true : v 0 ≡ true) (frames : Frames) (t : ℕ) (here : frame_at frames t ≡ frame_of parts v now) where
    pub pin_law : (n : ℕ) (pin : Option Pin) (place : ℕ) (e : EdgeId) (m : Lit) → PinFits parts pin place e → Obeys v n (pin_circuit n pin place (only (now e.0)) m).entries → truth v (pin_circuit n pin place (only (now e.0)) m).result ≡ (is_pinned pin place e frames t && truth v m)
    pin_law n None place e m f o = refl
    pin_law n (Some pin) place e m f o = elim (cases_Bool (place == pin.place)) [
      | inl c ↦ at_place c o
      | inr c ↦ rw c refl
    ]
      where
        at_place : (place == pin.place) ≡ true → Obeys v n (pin_circuit n (Some pin) place (only (now e.0)) m).entries → truth v (pin_circuit n (Some pin) place (only (now e.0)) m).result ≡ (is_pinned (Some pin) place e frames t && truth v m)
        at_place c = rw c (λ o.
            let q : place ≡ pin.place = grind (arith, nat_tests) in
            literal_law v n m (as_pinned pin.value (only (now e.0))) o
            ∙ ap (λ x. x && truth v m) (pinned_law pin.value e (f q) ∙ ap (λ frame. has_truth pin.value (at_edge frame e)) (sym here)))

    -- a step without its pin
    passes_law : (n : ℕ) (form : Form) (port : ℕ) (ty : Ty) (act : ℕ → Bool) (shorter : Lit) (before : Option Lit) → GivesType parts form ty → truth v shorter ≡ act t → TellsBefore v act t before →
        Obeys v n (condition_by n form port now (begin_by form port shorter before)).entries →
        truth v (condition_by n form port now (begin_by form port shorter before)).result ≡ passes_by form port frames act t
    passes_law n (Input i) port ty act shorter before g h b o = h
    passes_law n (Const x) port ty act shorter before g h b o = h
    passes_law n (One f a) port ty act shorter before g h b o = h
    passes_law n (Two f a c) port ty act shorter before g h b o =
        binary_at n f port a c shorter (over_truths parts f a c ty g) o
        ∙ ap₂ (λ frame x. step_by (Two f a c) port frame && x) (sym here) h
    passes_law n (Ite a c d) port ty act shorter before g h b o =
        let k = if_typed (type_of parts.edges a) (type_of parts.edges c) (type_of parts.edges d) ty g in
        if_law v n port (only (now a.0)) shorter o
        ∙ (ap (λ x. is_chosen port x && truth v shorter) (truth_at a k.0)
        ∙ ap₂ (λ frame x. step_by (Ite a c d) port frame && x) (sym here) h)
    passes_law n (Arrow a c) port ty act shorter before g h b o = arrow port t before h b
      where
        arrow : (port t : ℕ) (before : Option Lit) → truth v shorter ≡ act t → TellsBefore v act t before → truth v (begin_by (Arrow a c) port shorter before) ≡ passes_by (Arrow a c) port frames act t
        arrow zero zero None h b = h
        arrow zero zero (Some l) h b = absurd b
        arrow zero (suc t) None h b = absurd b
        arrow zero (suc t) (Some l) h b =
            let e : (suc t == 0) ≡ false = grind (arith, nat_tests) in
            truth-no v 0 ∙ (ap not one_true ∙ ap (λ x. x && act (suc t)) (sym e))
        arrow (suc port) zero None h b = truth-no v 0 ∙ ap not one_true
        arrow (suc port) zero (Some l) h b = absurd b
        arrow (suc port) (suc t) None h b = absurd b
        arrow (suc port) (suc t) (Some l) h b =
            let e : nat_le 1 (suc t) ≡ true = grind (arith, nat_tests) in
            h ∙ ap (λ x. x && act (suc t)) (sym e)
    passes_law n (Pre a) port ty act shorter before g h b o = delayed t before b
      where
        delayed : (t : ℕ) (before : Option Lit) → TellsBefore v act t before → truth v (begin_by (Pre a) port shorter before) ≡ passes_by (Pre a) port frames act t
        delayed zero None b = truth-no v 0 ∙ ap not one_true
        delayed zero (Some l) b = absurd b
        delayed (suc t) None b = absurd b
        delayed (suc t) (Some l) b = b

    pub place_law : IsValid parts → (n : ℕ) (pin : Option Pin) (place : ℕ) (s : Step) (edge : Option Edge) (act : ℕ → Bool) (shorter : Lit) (before : Option Lit) → slice_get parts.edges s.edge.0 ≡ edge → PinFits parts pin place s.edge → truth v shorter ≡ act t → TellsBefore v act t before →
        Obeys v n (place_in n pin place s edge now shorter before).entries →
        truth v (place_in n pin place s edge now shorter before).result ≡ (is_pinned pin place s.edge frames t && option_map_or (λ (edge : Edge). passes edge.op s.port frames act t) edge false)
    place_law valid n pin place s None act shorter before is f h b o = (truth-no v 0 ∙ ap not one_true) ∙ and_false (is_pinned pin place s.edge frames t)
    place_law valid n pin place s (Some edge) act shorter before is f h b o =
        let u = condition_by n (form_of edge.op) s.port now (begin_by (form_of edge.op) s.port shorter before) in
        let z = pin_circuit (after n u.entries) pin place (only (now s.edge.0)) u.result in
        let p = obeys_parts v n u.entries z.entries o in
        pin_law (after n u.entries) pin place s.edge u.result f p.1
        ∙ ap (λ x. is_pinned pin place s.edge frames t && x) (passes_law n (form_of edge.op) s.port edge.ty act shorter before (edge_typed parts valid s.edge.0 edge is) h b p.0)
