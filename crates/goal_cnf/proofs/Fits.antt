-- The words of the inputs have values of the inputs' types in each assignment that satisfies the formula.
use Rattle.std.proofs.Common.{◌≡◌, ℕ, zero, suc, ◌+◌, ◌-◌, ◌*◌, ◌^◌, ◌<◌, ◌≤◌, Bool, true, false, nat_lt, nat_eq, List, [], ◌∷◌, ◌++◌, length, map, refl, sym, ap, ◌∙◌, subst, inl, inr, arith, Option, Some, None}
use Rattle.std.specs.Prelude.{slice_get, All}
use Rattle.std.specs.List.{Contains, range_with_len}
use Rattle.std.specs.Option.{option_map, option_map_or}
use Rattle.std.proofs.lemmas.Int.{ints}
use Rattle.std.proofs.lemmas.Bool.{cases_Bool, false≢true}
use Rattle.std.proofs.lemmas.Bool.Decides.{nat_tests}
use Rattle.std.proofs.lemmas.List.Elements.{All-nil, All-cons, Contains-push}
use Rattle.std.proofs.lemmas.Option.{slice_get_within}
use Rattle.cnf_form.specs.declared.lit.Lit.{Lit}
use Rattle.cnf_form.specs.Lits.{truth, holds}
use Rattle.cnf_form.proofs.LitFacts.{truth-turned}
use Rattle.op_network.specs.declared.edge.Choice.{Choice}
use Rattle.op_network.specs.declared.edge.Edge.{Edge}
use Rattle.op_network.specs.declared.edge.EdgeId.{EdgeId}
use Rattle.op_network.specs.declared.edge.Op.TheVariants as op
use Rattle.op_network.specs.declared.edge.Parts.{Parts}
use Rattle.op_network.specs.declared.value.Ty.{Ty}
use Rattle.op_network.specs.declared.value.Ty.TheVariants as type
use Rattle.op_network.specs.declared.value.Value.{Value}
use Rattle.op_network.specs.Operators.{at_edge, form_of}
use Rattle.op_network.specs.Valid.{FitsRow, HasType, IsEnumerator, IsValid}
use Rattle.op_network.specs.Values.{IsWord}
use Rattle.op_network.proofs.Words.{twice_half}
use Rattle.lus_causality.specs.Causality.{IsSequence}
use Rattle.lus_causality.proofs.Places.{none, parts as places}
use Rattle.lus_causality.proofs.Causal.{causal_of}
use Rattle.bit_blast.specs.Circuit.{Entry, Free, Require, Circuit, after}
use Rattle.bit_blast.specs.Circuit as gate
use Rattle.bit_blast.specs.Words.{fresh}
use Rattle.bit_blast.specs.Numbers.{bits, unsigned, signed}
use Rattle.bit_blast.proofs.Values.{Meets}
use Rattle.bit_blast.proofs.Numbers.{unsigned_below}
use Rattle.bit_blast.proofs.Sums.{length-bits}
use Rattle.unroll_cnf.specs.Sizes.{bits_of, enumerators}
use Rattle.unroll_cnf.specs.Values.{digits, excluding, excluded, bits_value}
use Rattle.unroll_cnf.specs.Laws.{frame_of, row_of, rows_of}
use Rattle.unroll_cnf.specs.Unrolled.{Table, no_words, put, circuit_by, circuit_in, edge_circuit, input_circuit, instant, instants}
use Rattle.unroll_cnf.proofs.Bits.{length-digits, unsigned-digits, unsigned_one}
use Rattle.unroll_cnf.proofs.Order.{StandBehind, stand_behind}
use Rattle.unroll_cnf.proofs.Edges.{SizedBefore}
use Rattle.unroll_cnf.proofs.Runs.{put_same, instant_keeps, reads_own, all_sized, type_is}
use Rattle.goal_cnf.proofs.Places.{AllSized}

pub meets_parts : (v : ℕ → Bool) (c d : List Entry) → Meets v (c ++ d) → Meets v c × Meets v d
meets_parts v [] d m = (tt, m)
meets_parts v (Free ∷ c) d m = meets_parts v c d m
meets_parts v (gate.And x y ∷ c) d m = meets_parts v c d m
meets_parts v (gate.Or x y ∷ c) d m = meets_parts v c d m
meets_parts v (gate.Xor x y ∷ c) d m = meets_parts v c d m
meets_parts v (gate.Ite z x y ∷ c) d m = meets_parts v c d m
meets_parts v (Require z ∷ c) d m = let r = meets_parts v c d m.1 in ((m.0, r.0), r.1)

-- ---- one word

excluding_false : (v : ℕ → Bool) (a : List Lit) → holds v (excluding a (bits v a)) ≡ false
excluding_false v [] = refl
excluding_false v (l ∷ a) = elim (cases_Bool (truth v l)) [
  | inl t ↦ rw t (rw (truth-turned v l, t) (excluding_false v a))
  | inr t ↦ rw t (rw t (excluding_false v a))
]

excluded_gives : (v : ℕ → Bool) (a : List Lit) (b from many x : ℕ) → Meets v (map (λ x. Require (excluding a (digits b x))) (range_with_len from many)) → from ≤ x → x < from + many → holds v (excluding a (digits b x)) ≡ true
excluded_gives v a b from zero x m le lt = absurd (omega arith)
excluded_gives v a b from (suc many) x m le lt = elim (cases_Bool (nat_eq from x)) [
  | inl t ↦ let e : from ≡ x = grind (arith, nat_tests) in subst (λ z. holds v (excluding a (digits b z)) ≡ true) e m.0
  | inr t ↦ let ne : from ≡ x → ⊥ = grind (arith, nat_tests) in excluded_gives v a b (from + 1) many x m.1 (omega arith) (omega arith)
]

signed_is_word : (w r : ℕ) → 1 ≤ w → r < 2 ^ w → IsWord w (signed w r)
unfolding signed
signed_is_word w r some lt =
    let twice = twice_half w some in
    elim (cases_Bool (nat_lt (2 * r) (2 ^ w))) [
      | inl t ↦
          let low : 2 * r < 2 ^ w = grind (arith, nat_tests) in
          rw t (omega (arith, ints), omega (arith, ints))
      | inr t ↦
          let high : 2 ^ w ≤ 2 * r = grind (arith, nat_tests) in
          rw t (omega (arith, ints), omega (arith, ints))
    ]

enumerator_at : (choices : List Choice) (c k : ℕ) → k < enumerators choices c → IsEnumerator choices c k
enumerator_at choices c k lt = go (slice_get choices c) refl lt
  where
    go : (o : Option Choice) → slice_get choices c ≡ o → k < option_map_or (λ (choice : Choice). length choice.names) o 0 → IsEnumerator choices c k
    go None is lt = absurd (omega (arith, lt))
    go (Some choice) is lt = (choice, is, lt)

word_fits : (parts : Parts) → 1 ≤ parts.width → (v : ℕ → Bool) (ty : Ty) (a : List Lit) → length a ≡ bits_of parts ty → Meets v (excluded parts ty a) → HasType parts (bits_value ty (bits v a)) ty
word_fits parts wide v type.Truth a l m = tt
word_fits parts wide v type.Word a l m =
    let w : length (bits v a) ≡ parts.width = length-bits v a ∙ l in
    subst (λ x. IsWord parts.width (signed x (unsigned (bits v a)))) (sym w)
    (signed_is_word parts.width (unsigned (bits v a)) wide (subst (λ x. unsigned (bits v a) < 2 ^ x) w (unsigned_below (bits v a))))
word_fits parts wide v (type.Choice c) a l m =
    let n = enumerators parts.choices c in
    let b = bits_of parts (type.Choice c) in
    let u = unsigned (bits v a) in
    elim (cases_Bool (nat_lt u n)) [
      | inl t ↦ let lt : u < n = grind (arith, nat_tests) in enumerator_at parts.choices c u lt
      | inr t ↦
          let w : length (bits v a) ≡ b = length-bits v a ∙ l in
          let ge : n ≤ u = grind (arith, nat_tests) in
          let lt : u < 2 ^ b = subst (λ x. u < 2 ^ x) w (unsigned_below (bits v a)) in
          let same : digits b u ≡ bits v a = unsigned_one (digits b u) (bits v a) (length-digits b u ∙ sym w) (unsigned-digits b u lt) in
          let gives = excluded_gives v a b n (2 ^ b - n) u m ge (omega (arith, lt, ge)) in
          absurd (false≢true (sym (ap (λ x. holds v (excluding a x)) same ∙ excluding_false v a) ∙ gives))
    ]

-- ---- an instant

op_there : (edges : List Edge) (i j : ℕ) (o : Option Edge) → slice_get edges i ≡ o → option_map (λ (edge : Edge). edge.op) o ≡ Some (op.Input j) → (edge : Edge) × (slice_get edges i ≡ Some edge) × (edge.op ≡ op.Input j)
op_there edges i j None is h = absurd (cc)
op_there edges i j (Some edge) is h = (edge, is, (let e : edge.op ≡ op.Input j = cc in e))

map_there : (f : EdgeId → Value) (xs : List EdgeId) (i : ℕ) (e : EdgeId) (x : Value) → slice_get xs i ≡ Some e → slice_get (map f xs) i ≡ Some x → x ≡ f e
map_there f [] i e x is at = absurd (cc)
map_there f (y ∷ xs) zero e x is at = let k : y ≡ e = cc in let l : f y ≡ x = cc in sym l ∙ ap f k
map_there f (y ∷ xs) (suc i) e x is at = map_there f xs i e x is at

length_map : (f : EdgeId → Value) (xs : List EdgeId) → length (map f xs) ≡ length xs
length_map f [] = refl
length_map f (x ∷ xs) = ap suc (length_map f xs)

module _ (parts : Parts) (valid : IsValid parts) (v : ℕ → Bool) where
  wide : 1 ≤ parts.width
  wide = let k = valid.narrowest in omega arith

  -- the numbers of no enumerator are excluded for the word of an input
  input_excluded : (before : Option Table) (n : ℕ) (now : Table) (done order : List EdgeId) → StandBehind parts.edges done order → Meets v (instant parts before n now order).entries →
      (e : EdgeId) → Contains order e → (edge : Edge) → slice_get parts.edges e.0 ≡ Some edge → (i : ℕ) → edge.op ≡ op.Input i → Meets v (excluded parts edge.ty ((instant parts before n now order).result e.0))
  input_excluded before n now done [] c m e i edge is j input = none e i
  input_excluded before n now done (d ∷ order) c m e i edge is j input =
      let one = edge_circuit parts n d before now in
      let rest = instant parts before (after n one.entries) (put now d.0 one.result) order in
      let p = meets_parts v one.entries rest.entries m in
      elim (places e d order i) [
        | inr later ↦ input_excluded before (after n one.entries) (put now d.0 one.result) (done ++ d ∷ []) order c.1 p.1 e later edge is j input
        | inl same ↦
            let at_d : slice_get parts.edges d.0 ≡ Some edge = subst (λ (z : EdgeId). slice_get parts.edges z.0 ≡ Some edge) (sym same) is in
            let form : one ≡ input_circuit parts n edge.ty = ap (λ (o : Option Edge). circuit_in parts n o before now) at_d ∙ by_input edge j before now n input in
            let word = fresh n (bits_of parts edge.ty) in
            let mine : Meets v (input_circuit parts n edge.ty).entries = subst (λ (y : Circuit (List Lit)). Meets v y.entries) form p.0 in
            let part = meets_parts v word.entries (excluded parts edge.ty word.result) mine in
            let own : rest.result d.0 ≡ word.result =
            instant_keeps parts before (after n one.entries) (put now d.0 one.result) (done ++ d ∷ []) order d c.1 (Contains-push done d)
            ∙ (put_same now d.0 one.result ∙ ap (λ (y : Circuit (List Lit)). y.result) form) in
            subst (λ (z : EdgeId). Meets v (excluded parts edge.ty (rest.result z.0))) same
            (subst (λ (a : List Lit). Meets v (excluded parts edge.ty a)) (sym own) part.1)
      ]
    where
      by_input : (edge : Edge) (j : ℕ) (before : Option Table) (now : Table) (n : ℕ) → edge.op ≡ op.Input j → circuit_in parts n (Some edge) before now ≡ input_circuit parts n edge.ty
      by_input edge j before now n input = ap (λ o. circuit_by parts n (form_of o) edge.ty before now) input

  module _ (order : List EdgeId) (sequence : IsSequence parts.edges order) where
    instant_fits : (before : Option Table) (n : ℕ) → SizedBefore parts before → Meets v (instant parts before n no_words order).entries → FitsRow parts (row_of parts v (instant parts before n no_words order).result)
    instant_fits before n b m =
        let table = (instant parts before n no_words order).result in
        let c = stand_behind parts.edges [] order (causal_of parts.edges order sequence.least) in
        let sized : AllSized parts table = all_sized parts valid before n order sequence b in (
          length_map (at_edge (frame_of parts v table)) parts.inputs,
          (λ i e x is at ty t.
              let d = op_there parts.edges e.0 i (slice_get parts.edges e.0) refl (valid.inputs.numbered i e is) in
              let same : d.0.ty ≡ ty = let k = type_is parts.edges e d.0 d.1 in cc in
              let x_is : x ≡ bits_value ty (bits v (table e.0)) = map_there (at_edge (frame_of parts v table)) parts.inputs i e x is at ∙ reads_own parts v table e ty t in
              let gone = input_excluded before n no_words [] order c m e (sequence.full e (slice_get_within parts.edges e.0 d.0 d.1)) d.0 d.1 i d.2 in
              subst (λ (y : Value). HasType parts y ty) (sym x_is)
              (word_fits parts wide v ty (table e.0) (sized e ty t) (subst (λ (y : Ty). Meets v (excluded parts y (table e.0))) same gone))),
        )

    pub instants_fit : (before : Option Table) (n k : ℕ) → SizedBefore parts before → Meets v (instants parts order before n k).entries → All (FitsRow parts) (rows_of parts v (instants parts order before n k).result)
    instants_fit before n zero b m = All-nil (FitsRow parts)
    instants_fit before n (suc k) b m =
        let one = instant parts before n no_words order in
        let rest = instants parts order (Some one.result) (after n one.entries) k in
        let p = meets_parts v one.entries rest.entries m in
        All-cons (FitsRow parts) (row_of parts v one.result) (rows_of parts v rest.result) (instant_fits before n b p.0)
        (instants_fit (Some one.result) (after n one.entries) k (all_sized parts valid before n order sequence b) p.1)
