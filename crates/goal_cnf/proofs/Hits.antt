-- The literals `hit` tell at which instants the obligation is met and the inputs so far are admissible.
use Rattle.std.proofs.Common.{◌≡◌, ℕ, zero, suc, ◌+◌, ◌<◌, ◌≤◌, Bool, true, false, ◌&&◌, List, [], ◌∷◌, ◌++◌, length, take, refl, sym, ap, ap₂, ◌∙◌, subst, inl, inr, arith, nat_eq, Option, Some, add-one}
use Rattle.std.specs.Prelude.{slice_get, All}
use Rattle.std.proofs.lemmas.Bool.{cases_Bool, and_parts, and_from, or_cases, or_left, or_right, false≢true}
use Rattle.std.proofs.lemmas.Bool.Decides.{nat_tests}
use Rattle.std.proofs.lemmas.List.Elements.{All-nil, All-cons, All-head, All-tail, All-more}
use Rattle.cnf_form.specs.declared.lit.Lit.{Lit}
use Rattle.cnf_form.specs.Lits.{truth, holds}
use Rattle.op_network.specs.declared.edge.EdgeId.{EdgeId}
use Rattle.op_network.specs.declared.edge.Parts.{Parts}
use Rattle.op_network.specs.declared.value.Ty.TheVariants as type
use Rattle.op_network.specs.declared.value.Value.{Value}
use Rattle.op_network.specs.Admissible.{AssertsHold}
use Rattle.op_network.specs.Operators.{at_edge}
use Rattle.op_network.specs.Valid.{type_of, IsValid}
use Rattle.op_network.specs.Values.{is_true}
use Rattle.lus_causality.specs.Causality.{IsSequence}
use Rattle.bit_blast.specs.Circuit.{after, yes}
use Rattle.bit_blast.specs.Circuit as gate
use Rattle.bit_blast.proofs.Values.{Obeys}
use Rattle.bit_blast.proofs.Circuits.{obeys_parts, truth-yes}
use Rattle.unroll_cnf.specs.Laws.{frame_of}
use Rattle.unroll_cnf.specs.Unrolled.{Table}
use Rattle.dep_paths.specs.declared.path.Obligation.{Obligation}
use Rattle.dep_paths.specs.Activation.{Frames, frame_at}
use Rattle.dep_paths.specs.Coverage.{Met}
use Rattle.dep_paths.specs.Duties.{Planned}
use Rattle.goal_cnf.specs.Goal.{met_circuit, last_lit, adm_circuit, hits}
use Rattle.goal_cnf.proofs.Obligations.{FitsGoal, PastGoal, met_law}
use Rattle.goal_cnf.proofs.Passages.{and_true}
use Rattle.goal_cnf.proofs.Places.{AllSized, truth_at}
use Rattle.goal_cnf.proofs.Ports.{Tells}

-- ---- assertions

abbrev pub all_true : List EdgeId → List Value → Bool
all_true [] frame = true
all_true (s ∷ asserts) frame = is_true (at_edge frame s) && all_true asserts frame

-- the assertions are true at each instant before t
abbrev pub admitted : List EdgeId → Frames → ℕ → Bool
admitted asserts frames zero = true
admitted asserts frames (suc t) = admitted asserts frames t && all_true asserts (frame_at frames t)

asserts_true : (asserts : List EdgeId) (frame : List Value) → all_true asserts frame ≡ true → All (λ (e : EdgeId). is_true (at_edge frame e) ≡ true) asserts
asserts_true [] frame h = All-nil (λ (e : EdgeId). is_true (at_edge frame e) ≡ true)
asserts_true (s ∷ asserts) frame h =
    let p = and_parts (is_true (at_edge frame s)) (all_true asserts frame) h in
    All-cons (λ (e : EdgeId). is_true (at_edge frame e) ≡ true) s asserts p.0 (asserts_true asserts frame p.1)

true_asserts : (asserts : List EdgeId) (frame : List Value) → All (λ (e : EdgeId). is_true (at_edge frame e) ≡ true) asserts → all_true asserts frame ≡ true
true_asserts [] frame h = refl
true_asserts (s ∷ asserts) frame h =
    and_from (is_true (at_edge frame s)) (all_true asserts frame) (All-head (λ (e : EdgeId). is_true (at_edge frame e) ≡ true) s asserts h)
    (true_asserts asserts frame (All-tail (λ (e : EdgeId). is_true (at_edge frame e) ≡ true) s asserts h))

pub admitted_holds : (parts : Parts) (frames : Frames) (t : ℕ) → t ≤ length frames → admitted parts.asserts frames t ≡ true → All (AssertsHold parts) (take t frames)
admitted_holds parts frames zero le h = All-nil (AssertsHold parts)
admitted_holds parts frames (suc t) le h =
    let p = and_parts (admitted parts.asserts frames t) (all_true parts.asserts (frame_at frames t)) h in
    subst (λ n. All (AssertsHold parts) (take n frames)) (add-one t)
    (All-more (AssertsHold parts) frames t [] (omega arith) (admitted_holds parts frames t (omega arith) p.0) (asserts_true parts.asserts (frame_at frames t) p.1))

pub holds_admitted : (parts : Parts) (frames : Frames) (t : ℕ) → ((s : ℕ) → s < t → AssertsHold parts (frame_at frames s)) → admitted parts.asserts frames t ≡ true
holds_admitted parts frames zero h = refl
holds_admitted parts frames (suc t) h =
    and_from (admitted parts.asserts frames t) (all_true parts.asserts (frame_at frames t)) (holds_admitted parts frames t (λ s lt. h s (omega arith)))
    (true_asserts parts.asserts (frame_at frames t) (h t (omega arith)))

-- ---- the circuits

and_assoc : (a b c : Bool) → ((a && b) && c) ≡ (a && (b && c))
and_assoc true b c = refl
and_assoc false b c = refl

module _ (parts : Parts) (valid : IsValid parts) (order : List EdgeId) (sequence : IsSequence parts.edges order) (plan : Planned) (v : ℕ → Bool) (one_true : v 0 ≡ true) (frames : Frames) where
  adm_law : (n : ℕ) (now : Table) (adm : Lit) (asserts : List EdgeId) → AllSized parts now → All (λ (e : EdgeId). type_of parts.edges e ≡ Some type.Truth) asserts → Obeys v n (adm_circuit n now adm asserts).entries →
      truth v (adm_circuit n now adm asserts).result ≡ (truth v adm && all_true asserts (frame_of parts v now))
  adm_law n now adm [] s f o = and_true (truth v adm)
  adm_law n now adm (a ∷ asserts) s f o =
      adm_law (suc n) now (yes n) asserts s (All-tail (λ (e : EdgeId). type_of parts.edges e ≡ Some type.Truth) a asserts f) o.1
      ∙ (ap (λ x. x && all_true asserts (frame_of parts v now))
      (truth-yes v n ∙ (o.0 ∙ ap (λ x. truth v adm && x) (truth_at parts v now s a (All-head (λ (e : EdgeId). type_of parts.edges e ≡ Some type.Truth) a asserts f))))
      ∙ and_assoc (truth v adm) (is_true (at_edge (frame_of parts v now) a)) (all_true asserts (frame_of parts v now)))

  -- ---- hits

  -- an instant at which the obligation is met and up to which the inputs are admissible
  pub record IsHit (o : Obligation) (t : ℕ) : Type 0 where
    pub admissible : admitted parts.asserts frames (suc t) ≡ true
    pub met : Met parts plan frames o t

  -- the literals `hit` from an instant on tell which of them are such
  abbrev pub HitsTell : Obligation → ℕ → List Lit → Type 0
  HitsTell o t [] = Unit {0}
  HitsTell o t (h ∷ hs) = Tells v h (IsHit o t) × HitsTell o (suc t) hs

  -- the words of the instants from t on
  pub record AreWordsFrom (t : ℕ) (words : List Table) : Type 0 where
    pub sized : (i : ℕ) (now : Table) → slice_get words i ≡ Some now → AllSized parts now
    pub read : (i : ℕ) (now : Table) → slice_get words i ≡ Some now → frame_at frames (t + i) ≡ frame_of parts v now

  words_rest : (t : ℕ) (now : Table) (words : List Table) → AreWordsFrom t (now ∷ words) → AreWordsFrom (suc t) words
  words_rest t now words w = record {
    sized = λ i x is. w.sized (suc i) x is;
    read = λ i x is. let e : suc t + i ≡ t + suc i = omega arith in ap (frame_at frames) e ∙ w.read (suc i) x is;
  }

  -- the conjunction of whether the inputs are admissible and whether the obligation is met
  hit_tells : (o : Obligation) (t : ℕ) (h a m : Lit) → truth v h ≡ (truth v a && truth v m) → truth v a ≡ admitted parts.asserts frames (suc t) → Tells v m (Met parts plan frames o t) → Tells v h (IsHit o t)
  hit_tells o t h a m gate adm met = (
    λ x. let p = and_parts (truth v a) (truth v m) (sym gate ∙ x) in record { admissible = sym adm ∙ p.0; met = met.0 p.1 },
    λ x. gate ∙ and_from (truth v a) (truth v m) (adm ∙ x.admissible) (met.1 x.met),
  )

  pub hits_law : (o : Obligation) → FitsGoal parts plan o → (n t : ℕ) (before : Option (List Lit)) (adm : Lit) (words : List Table) → AreWordsFrom t words → PastGoal parts.edges plan frames o v t before → truth v adm ≡ admitted parts.asserts frames t →
      Obeys v n (hits parts order plan o n before adm words).entries → HitsTell o t (hits parts order plan o n before adm words).result
  hits_law o f n t before adm [] w b a ob = tt
  hits_law o f n t before adm (now ∷ words) w b a ob =
      let met = met_circuit n parts order plan o now before in
      let n1 = after n met.entries in
      let adm1 = adm_circuit n1 now adm parts.asserts in
      let n2 = after n1 adm1.entries in
      let rest = hits parts order plan o (suc n2) (Some met.result) adm1.result words in
      let hit = gate.And adm1.result (last_lit met.result) in
      let o1 = obeys_parts v n met.entries (adm1.entries ++ (hit ∷ rest.entries)) ob in
      let o2 = obeys_parts v n1 adm1.entries (hit ∷ rest.entries) o1.1 in
      let sized = w.sized 0 now refl in
      let e : t ≡ t + 0 = omega arith in
      let here : frame_at frames t ≡ frame_of parts v now = ap (frame_at frames) e ∙ w.read 0 now refl in
      let m = met_law parts valid order sequence plan v one_true frames now sized t here n before o f b o1.0 in
      let adm_is : truth v adm1.result ≡ admitted parts.asserts frames (suc t) =
      adm_law n1 now adm parts.asserts sized valid.asserts o2.0
      ∙ ap₂ (λ x frame. x && all_true parts.asserts frame) a (sym here) in (
        hit_tells o t (yes n2) adm1.result (last_lit met.result) (truth-yes v n2 ∙ o2.1.0) adm_is m.1,
        hits_law o f (suc n2) (suc t) (Some met.result) adm1.result words (words_rest t now words w) m.0 adm_is o2.1.1,
      )

  pub hit_at : (o : Obligation) (t : ℕ) (hs : List Lit) → HitsTell o t hs → (i : ℕ) (h : Lit) → slice_get hs i ≡ Some h → truth v h ≡ true → IsHit o (t + i)
  hit_at o t [] h i l is e = absurd (cc)
  hit_at o t (x ∷ hs) h zero l is e =
      let same : x ≡ l = cc in
      let z : t ≡ t + 0 = omega arith in
      subst (IsHit o) z (h.0.0 (ap (truth v) same ∙ e))
  hit_at o t (x ∷ hs) h (suc i) l is e =
      let z : suc t + i ≡ t + suc i = omega arith in
      subst (IsHit o) z (hit_at o (suc t) hs h.1 i l is e)

  pub hit_holds : (o : Obligation) (t : ℕ) (hs : List Lit) → HitsTell o t hs → (j : ℕ) → t ≤ j → j < t + length hs → IsHit o j → holds v hs ≡ true
  hit_holds o t [] h j le lt x = absurd (omega arith)
  hit_holds o t (l ∷ hs) h j le lt x = elim (cases_Bool (nat_eq t j)) [
    | inl q ↦
        let e : t ≡ j = grind (arith, nat_tests) in
        or_left (truth v l) (holds v hs) (h.0.1 (subst (IsHit o) (sym e) x))
    | inr q ↦
        let ne : t ≡ j → ⊥ = grind (arith, nat_tests) in
        or_right (truth v l) (holds v hs) (hit_holds o (suc t) hs h.1 j (omega arith) (omega arith) x)
  ]

-- there is a hit for each instant
pub length_hits : (parts : Parts) (order : List EdgeId) (plan : Planned) (o : Obligation) (words : List Table) (n : ℕ) (before : Option (List Lit)) (adm : Lit) → length (hits parts order plan o n before adm words).result ≡ length words
length_hits parts order plan o [] n before adm = refl
length_hits parts order plan o (now ∷ words) n before adm = ap suc (length_hits parts order plan o words _ _ _)

-- some literal of a clause that holds is true
pub some_true : (v : ℕ → Bool) (hs : List Lit) → holds v hs ≡ true → (i : ℕ) × (h : Lit) × (slice_get hs i ≡ Some h) × (truth v h ≡ true)
some_true v [] e = absurd (false≢true e)
some_true v (l ∷ hs) e = elim (or_cases (truth v l) (holds v hs) e) [
  | inl x ↦ (0, l, refl, x)
  | inr x ↦ let r = some_true v hs x in (suc r.0, r.1, r.2, r.3)
]
