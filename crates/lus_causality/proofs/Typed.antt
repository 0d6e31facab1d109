-- The frames of a run have values of the edges' types.
use Rattle.std.proofs.Common.{◌≡◌, ℕ, suc, zero, ◌<◌, ◌≤◌, ◌-◌, Bool, true, false, if◌then◌else◌, ◌&&◌, ◌||◌, not, List, [], ◌∷◌, get_or, refl, sym, ap, ◌∙◌, subst, arith, ℤ, ◌+ℤ◌, ◌-ℤ◌}
use Rattle.std.proofs.lemmas.Bool.{eqb-true}
use Rattle.std.proofs.lemmas.Int.{ints}
use Rattle.std.proofs.lemmas.List.Elements.{All-cons, All-head, All-tail}
use Rattle.std.proofs.lemmas.Nat.{pow_pos}
use Rattle.std.proofs.lemmas.Option.{slice_get_within, get_or_from_slice_get}
use Rattle.std.specs.Option.{option_map}
use Rattle.std.specs.Prelude.{◌*ℤ◌, neg_ℤ, int_lt, Option, Some, None, slice_get}
use Rattle.std.specs.List.{All, Contains}
use Rattle.op_network.specs.declared.edge.EdgeId.{EdgeId}
use Rattle.op_network.specs.declared.edge.Edge.{Edge}
use Rattle.op_network.specs.declared.edge.Op.{Op}
use Rattle.op_network.specs.declared.edge.Op.TheVariants as op
use Rattle.op_network.specs.declared.edge.Parts.{Parts}
use Rattle.op_network.specs.declared.form.Form.{Form}
use Rattle.op_network.specs.declared.form.Form.TheVariants.{Input, Const, One, Two, Ite, Arrow, Pre}
use Rattle.op_network.specs.declared.form.Unary.{Unary}
use Rattle.op_network.specs.declared.form.Unary.TheVariants as one
use Rattle.op_network.specs.declared.form.Binary.{Binary}
use Rattle.op_network.specs.declared.form.Binary.TheVariants as two
use Rattle.op_network.specs.declared.value.Ty.{Ty}
use Rattle.op_network.specs.declared.value.Ty.TheVariants as type
use Rattle.op_network.specs.declared.value.Value.{Value}
use Rattle.op_network.specs.declared.value.Value.TheVariants.{Truth, Word}
use Rattle.op_network.specs.Operators.{form_of, at_edge, value_by, unary_value, binary_value, if_value, arrow_value, pre_value, is_same_type, over, alike, unary_type, binary_type, if_type}
use Rattle.op_network.specs.Run.{IsFrame, IsRunAfter, IsRun}
use Rattle.op_network.specs.Valid.{IsValid, IsWellTyped, IsTypeOf, IsChoice, FitsRow, GivesType, HasType, type_of, unary_type_of, binary_type_of, if_type_of, arrow_type_of}
use Rattle.op_network.specs.Values.{default, is_true, is_same, number, xor, wrap}
use Rattle.op_network.proofs.Words.{wrap_is_word}
use Rattle.lus_causality.specs.Causality.{operands_now_by, IsCausal, IsFull, HasNoCycle}
use Rattle.lus_causality.specs.Laws.{IsFrameOf}
use Rattle.lus_causality.proofs.Causal.{place_in, place_below}
use Rattle.lus_causality.proofs.Ending.{unary_typed, binary_typed, if_typed, arrow_typed, typed_within}
use Rattle.lus_causality.proofs.Existing.{full_list}
use Rattle.lus_causality.proofs.Frames.{found_at, operands_at}
use Rattle.lus_causality.proofs.Places.{first as at_first, later}

-- ---- types that are one

same_type : (a b : Ty) → is_same_type a b ≡ true → a ≡ b
same_type type.Truth type.Truth is = refl
same_type type.Truth type.Word is = cc
same_type type.Truth (type.Choice d) is = cc
same_type type.Word type.Truth is = cc
same_type type.Word type.Word is = refl
same_type type.Word (type.Choice d) is = cc
same_type (type.Choice c) type.Truth is = cc
same_type (type.Choice c) type.Word is = cc
same_type (type.Choice c) (type.Choice d) is = ap type.Choice (eqb-true c d is)

chosen : (b : Bool) (r ty : Ty) → (if b then Some r else None) ≡ Some ty → (b ≡ true) × (r ≡ ty)
chosen true r ty h = (refl, cc)
chosen false r ty h = cc

over_gives : (operand result a b ty : Ty) → over operand result a b ≡ Some ty → result ≡ ty
over_gives operand result a b ty h = (chosen (is_same_type a operand && is_same_type b operand) result ty h).1

alike_gives : (result a b ty : Ty) → alike result a b ≡ Some ty → (a ≡ b) × (result ≡ ty)
alike_gives result a b ty h = let k = chosen (is_same_type a b) result ty h in (same_type a b k.0, k.1)

if_gives : (a b c ty : Ty) → if_type a b c ≡ Some ty → (b ≡ ty) × (c ≡ ty)
if_gives a b c ty h = go (is_same_type a type.Truth) h
  where
    go : (t : Bool) → (if t then alike b b c else None) ≡ Some ty → (b ≡ ty) × (c ≡ ty)
    go true h = let k = alike_gives b b c ty h in (k.1, sym k.0 ∙ k.1)
    go false h = cc

-- ---- values of a type, by how many operands an operator has

module _ (parts : Parts) (valid : IsValid parts) where
  some_width : 1 ≤ parts.width
  some_width = let w = valid.narrowest in omega (arith, w)

  truth : (b : Bool) (ty : Ty) → type.Truth ≡ ty → HasType parts (Truth b) ty
  truth b ty is = subst (HasType parts (Truth b)) is tt

  word : (x : ℤ) (ty : Ty) → type.Word ≡ ty → HasType parts (Word (wrap parts.width x)) ty
  word x ty is = subst (HasType parts (Word (wrap parts.width x))) is (wrap_is_word parts.width x some_width)

  unary_has : (o : Unary) (a ty : Ty) (v : Value) → unary_type o a ≡ Some ty → HasType parts v a → HasType parts (unary_value parts.width o v) ty
  unary_has one.Id a ty v h has = subst (HasType parts v) (let k : a ≡ ty = cc in k) has
  unary_has one.Not a ty v h has = truth (not (is_true v)) ty (over_gives type.Truth type.Truth a a ty h)
  unary_has one.Neg a ty v h has = word (neg_ℤ (number v)) ty (over_gives type.Word type.Word a a ty h)

  binary_has : (o : Binary) (a b ty : Ty) (v w : Value) → binary_type o a b ≡ Some ty → HasType parts (binary_value parts.width o v w) ty
  binary_has two.And a b ty v w h = truth (is_true v && is_true w) ty (over_gives type.Truth type.Truth a b ty h)
  binary_has two.Or a b ty v w h = truth (is_true v || is_true w) ty (over_gives type.Truth type.Truth a b ty h)
  binary_has two.Xor a b ty v w h = truth (xor (is_true v) (is_true w)) ty (over_gives type.Truth type.Truth a b ty h)
  binary_has two.Imp a b ty v w h = truth (not (is_true v) || is_true w) ty (over_gives type.Truth type.Truth a b ty h)
  binary_has two.Eq a b ty v w h = truth (is_same v w) ty (alike_gives type.Truth a b ty h).1
  binary_has two.Ne a b ty v w h = truth (not (is_same v w)) ty (alike_gives type.Truth a b ty h).1
  binary_has two.Lt a b ty v w h = truth (int_lt (number v) (number w)) ty (over_gives type.Word type.Truth a b ty h)
  binary_has two.Le a b ty v w h = truth (not (int_lt (number w) (number v))) ty (over_gives type.Word type.Truth a b ty h)
  binary_has two.Gt a b ty v w h = truth (int_lt (number w) (number v)) ty (over_gives type.Word type.Truth a b ty h)
  binary_has two.Ge a b ty v w h = truth (not (int_lt (number v) (number w))) ty (over_gives type.Word type.Truth a b ty h)
  binary_has two.Add a b ty v w h = word (number v +ℤ number w) ty (over_gives type.Word type.Word a b ty h)
  binary_has two.Sub a b ty v w h = word (number v -ℤ number w) ty (over_gives type.Word type.Word a b ty h)
  binary_has two.Mul a b ty v w h = word (number v *ℤ number w) ty (over_gives type.Word type.Word a b ty h)

  if_has : (a b c : Value) (ty : Ty) → HasType parts b ty → HasType parts c ty → HasType parts (if_value a b c) ty
  if_has a b c ty has_b has_c = go (is_true a)
    where
      go : (t : Bool) → HasType parts (if t then b else c) ty
      go true = has_b
      go false = has_c

  arrow_has : (before : Option (List Value)) (a b : Value) (ty : Ty) → HasType parts a ty → HasType parts b ty → HasType parts (arrow_value before a b) ty
  arrow_has None a b ty has_a has_b = has_a
  arrow_has (Some frame) a b ty has_a has_b = has_b

  default_has : (ty : Ty) → IsTypeOf parts ty → HasType parts (default ty) ty
  default_has type.Truth is = tt
  default_has type.Word is = let some = pow_pos (parts.width - 1) in (omega (arith, ints, some), omega (arith, ints, some))
  default_has (type.Choice c) is =
      let choice = found_at parts.choices c is in
      let has : IsChoice choice.0 = subst IsChoice (get_or_from_slice_get parts.choices c choice.0 choice.0 choice.1) (valid.choices c choice.0 is) in
      (choice.0, choice.1, (let some = has.some in omega (arith, some)))

  -- the frame of the instant before, if there is one, has values of the edges' types
  abbrev pub WasTyped : Option (List Value) → Type 0
  WasTyped None = Unit {0}
  WasTyped (Some frame) = IsFrameOf parts frame

  pre_has : (before : Option (List Value)) (a : EdgeId) (ty : Ty) → WasTyped before → IsTypeOf parts ty → type_of parts.edges a ≡ Some ty → HasType parts (pre_value before ty a) ty
  pre_has None a ty was is h = default_has ty is
  pre_has (Some frame) a ty was is h = was.each a ty h

  -- an operator over values of its operands' types has a value of its type
  value_has : (form : Form) (ty : Ty) (before : Option (List Value)) (now inputs : List Value) → WasTyped before → IsTypeOf parts ty → GivesType parts form ty
      → ((i : ℕ) → form ≡ Input i → HasType parts (get_or inputs i (Truth false)) ty)
      → ((o : EdgeId) (t : Ty) → Contains (operands_now_by form) o → type_of parts.edges o ≡ Some t → HasType parts (at_edge now o) t)
      → HasType parts (value_by parts.width form ty before now inputs) ty
  value_has (Input i) ty before now inputs was is h input has = input i refl
  value_has (Const v) ty before now inputs was is h input has = h
  value_has (One o a) ty before now inputs was is h input has =
      let t = unary_typed o (type_of parts.edges a) ty h in
      unary_has o t.0 ty (at_edge now a) (ap (unary_type_of o) (sym t.1) ∙ h) (has a t.0 (at_first a a [] refl) t.1)
  value_has (Two o a b) ty before now inputs was is h input has =
      let t = binary_typed o (type_of parts.edges a) (type_of parts.edges b) ty h in
      binary_has o t.0.0 t.1.0 ty (at_edge now a) (at_edge now b) (ap (λ x. binary_type_of o x (Some t.1.0)) (sym t.0.1) ∙ ap (binary_type_of o (type_of parts.edges a)) (sym t.1.1) ∙ h)
  value_has (Ite a b c) ty before now inputs was is h input has =
      let t = if_typed (type_of parts.edges a) (type_of parts.edges b) (type_of parts.edges c) ty h in
      let same = if_gives t.0.0 t.1.0 t.2.0 ty (ap (λ x. if_type_of x (Some t.1.0) (Some t.2.0)) (sym t.0.1) ∙ ap (λ x. if_type_of (type_of parts.edges a) x (Some t.2.0)) (sym t.1.1) ∙ ap (if_type_of (type_of parts.edges a) (type_of parts.edges b)) (sym t.2.1) ∙ h) in
      if_has (at_edge now a) (at_edge now b) (at_edge now c) ty
      (has b ty (later b a (b ∷ c ∷ []) (at_first b b (c ∷ []) refl)) (t.1.1 ∙ ap Some same.0))
      (has c ty (later c a (b ∷ c ∷ []) (later c b (c ∷ []) (at_first c c [] refl))) (t.2.1 ∙ ap Some same.1))
  value_has (Arrow a b) ty before now inputs was is h input has =
      let t = arrow_typed (type_of parts.edges a) (type_of parts.edges b) ty h in
      let same = alike_gives t.0.0 t.0.0 t.1.0 ty (ap (λ x. arrow_type_of x (Some t.1.0)) (sym t.0.1) ∙ ap (arrow_type_of (type_of parts.edges a)) (sym t.1.1) ∙ h) in
      arrow_has before (at_edge now a) (at_edge now b) ty
      (has a ty (at_first a a (b ∷ []) refl) (t.0.1 ∙ ap Some same.1))
      (has b ty (later b a (b ∷ []) (at_first b b [] refl)) (t.1.1 ∙ ap Some (sym same.0 ∙ same.1)))
  value_has (Pre a) ty before now inputs was is h input has = pre_has before a ty was is h

  -- ---- inputs

  input_op : (o : Op) (i : ℕ) → form_of o ≡ Input i → o ≡ op.Input i
  input_op (op.Input j) i h = let k : j ≡ i = cc in ap op.Input k
  input_op (op.Const v) i h = cc
  input_op (op.Id a) i h = cc
  input_op (op.Not a) i h = cc
  input_op (op.Neg a) i h = cc
  input_op (op.And a b) i h = cc
  input_op (op.Or a b) i h = cc
  input_op (op.Xor a b) i h = cc
  input_op (op.Imp a b) i h = cc
  input_op (op.Eq a b) i h = cc
  input_op (op.Ne a b) i h = cc
  input_op (op.Lt a b) i h = cc
  input_op (op.Le a b) i h = cc
  input_op (op.Gt a b) i h = cc
  input_op (op.Ge a b) i h = cc
  input_op (op.Add a b) i h = cc
  input_op (op.Sub a b) i h = cc
  input_op (op.Mul a b) i h = cc
  input_op (op.Ite a b c) i h = cc
  input_op (op.Arrow a b) i h = cc
  input_op (op.Pre a) i h = cc

  input_has : (row : List Value) (e : EdgeId) (edge : Edge) (i : ℕ) → FitsRow parts row → slice_get parts.edges e.0 ≡ Some edge → form_of edge.op ≡ Input i → HasType parts (get_or row i (Truth false)) edge.ty
  input_has row e edge i fits found is =
      let at = valid.inputs.all e.0 edge found i (input_op edge.op i is) in
      let value = found_at row i (subst (λ n. i < n) (sym fits.0) (slice_get_within parts.inputs i e at)) in
      subst (λ v. HasType parts v edge.ty) (sym (get_or_from_slice_get row i value.0 (Truth false) value.1)) (fits.1 i e value.0 at value.1 edge.ty (ap (option_map (λ (x : Edge). x.ty)) found))

  -- ---- a frame, edge by edge in the order of a causal list

  module _ (before : Option (List Value)) (row now : List Value) (list : List EdgeId) (causal : IsCausal parts.edges list) (was : WasTyped before) (fits : FitsRow parts row) (frame : IsFrame parts.width parts.edges before row now) where
    typed_below : (i j : ℕ) (e : EdgeId) (ty : Ty) → j < i → slice_get list j ≡ Some e → type_of parts.edges e ≡ Some ty → HasType parts (at_edge now e) ty
    typed_below zero j e ty lt is typed = absurd (omega (arith, lt))
    typed_below (suc i) j e ty lt is typed =
        let within = (causal j e is).within in
        let edge = found_at parts.edges e.0 within in
        let same : edge.0.ty ≡ ty = let k : Some edge.0.ty ≡ Some ty = sym (ap (option_map (λ (x : Edge). x.ty)) edge.1) ∙ typed in cc in
        let value = get_or_from_slice_get now e.0 _ (Truth false) (frame.values e.0 edge.0 edge.1) in
        let in_edges : (P : Edge → Type 0) → All P parts.edges → P edge.0 = λ P all. subst P (get_or_from_slice_get parts.edges e.0 edge.0 edge.0 edge.1) (all e.0 edge.0 within) in
        subst (HasType parts (at_edge now e)) same
        (subst (λ v. HasType parts v edge.0.ty) (sym value)
        (value_has (form_of edge.0.op) edge.0.ty before now row was
        (in_edges (λ (x : Edge). IsTypeOf parts x.ty) valid.types)
        (in_edges (λ (x : Edge). IsWellTyped parts x.op x.ty) valid.typed)
        (λ k form. input_has row e edge.0 k fits edge.1 form)
        (λ o t k has_type.
        let p = place_below o list j ((causal j e is).operands o (subst (λ l. Contains l o) (sym (operands_at parts.edges e edge.0 edge.1)) k)) in
        typed_below i p.0 o t (let below = p.1 in omega (arith, lt, below)) p.2 has_type)))

    frame_has : IsFull parts.edges list → IsFrameOf parts now
    frame_has full = record {
      size = frame.size;
      each = λ e ty typed.
          let p = place_in e list (full e (typed_within parts.edges e ty typed)) in
          typed_below (suc p.0) p.0 e ty (omega arith) p.2 typed;
    }

  -- ---- a run

  frames_have : (list : List EdgeId) → IsCausal parts.edges list → IsFull parts.edges list → (before : Option (List Value)) (rows frames : List (List Value)) → WasTyped before → All (FitsRow parts) rows → IsRunAfter parts.width parts.edges before rows frames → All (IsFrameOf parts) frames
  frames_have list causal full before [] [] was fit run = λ i d lt. absurd (omega (arith, lt))
  frames_have list causal full before [] (f ∷ frames) was fit run = elim run [ ]
  frames_have list causal full before (r ∷ rows) [] was fit run = elim run [ ]
  frames_have list causal full before (r ∷ rows) (f ∷ frames) was fit run =
      let has = frame_has before r f list causal was (All-head (FitsRow parts) r rows fit) run.0 full in
      All-cons (IsFrameOf parts) f frames has (frames_have list causal full (Some f) rows frames has (All-tail (FitsRow parts) r rows fit) run.1)

pub frames_have_types : (parts : Parts) (rows frames : List (List Value)) → IsValid parts → HasNoCycle parts.edges → All (FitsRow parts) rows → IsRun parts.width parts.edges rows frames → All (IsFrameOf parts) frames
frames_have_types parts rows frames valid acyclic fit run =
    let all = full_list parts valid acyclic in
    frames_have parts valid all.0 all.1 all.2 None rows frames tt fit run
