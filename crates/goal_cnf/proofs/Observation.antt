-- The literals of a condition at an instant tell which edges it reaches, and whether it is observed.
use Rattle.std.proofs.Common.{◌≡◌, ◌⊎◌, ⊎_elim, ◌↔◌, ℕ, suc, ◌-◌, ◌<◌, Bool, true, false, not, ◌||◌, List, [], ◌∷◌, ◌++◌, length, replicate, refl, sym, ap, ◌∙◌, subst, inl, inr, arith, Option, Some, append_assoc, append-nil, length-append}
use Rattle.std.specs.Prelude.{slice_set, All, Contains}
use Rattle.std.specs.Option.{option_map_or}
use Rattle.std.proofs.lemmas.Bool.{false≢true, or_cases, or_left, or_right, not-true}
use Rattle.std.proofs.lemmas.List.{get_or-set_same, get_or-set_other, get_or_append_left, get_or_at, length-set, length-replicate}
use Rattle.std.proofs.lemmas.List.Elements.{All-contains, Contains-push_cases}
use Rattle.cnf_form.specs.declared.lit.Lit.{Lit}
use Rattle.cnf_form.specs.Lits.{truth}
use Rattle.op_network.specs.declared.edge.Edge.{Edge}
use Rattle.op_network.specs.declared.edge.EdgeId.{EdgeId}
use Rattle.op_network.specs.declared.edge.Parts.{Parts}
use Rattle.op_network.specs.declared.value.Ty.TheVariants as type
use Rattle.op_network.specs.declared.value.Value.{Value}
use Rattle.op_network.specs.declared.value.Value.TheVariants.{Truth, Word, Choice}
use Rattle.op_network.specs.Operators.{at_edge}
use Rattle.op_network.specs.Valid.{type_of, IsValid}
use Rattle.lus_causality.specs.Causality.{IsSequence}
use Rattle.lus_causality.proofs.Causal.{causal_of}
use Rattle.lus_causality.proofs.Places.{first, later, none, parts as places}
use Rattle.bit_blast.specs.Circuit.{after, yes, no}
use Rattle.bit_blast.proofs.Values.{Obeys}
use Rattle.bit_blast.proofs.Circuits.{obeys_parts, truth-yes, truth-no}
use Rattle.unroll_cnf.specs.Laws.{frame_of}
use Rattle.unroll_cnf.specs.Unrolled.{Table, only}
use Rattle.unroll_cnf.proofs.Order.{StandBehind, stand_behind}
use Rattle.unroll_cnf.proofs.Runs.{one_id}
use Rattle.dep_paths.specs.declared.path.Condition.{Condition}
use Rattle.dep_paths.specs.Activation.{Frames, frame_at, has_truth}
use Rattle.dep_paths.specs.Conditions.{operand_at}
use Rattle.dep_paths.specs.Observed.{Tag, HasValue, IsObserved, ReachesEdge}
use Rattle.goal_cnf.specs.Activity.{as_pinned, lit_at}
use Rattle.goal_cnf.specs.Goal.{last_lit}
use Rattle.goal_cnf.specs.Observation.{Past, condition_bit, observation, outputs_circuit, past_in, past_of, tag_circuit, tags_circuit}
use Rattle.goal_cnf.proofs.Places.{AllSized, pinned_law}
use Rattle.goal_cnf.proofs.Ports.{Tells, some_one}
use Rattle.goal_cnf.proofs.Reaching.{BeforeTells, BitTells, KeptTells, tag_tells}

-- ---- the condition's operand

-- the operand at a port is an edge that is a truth
pub record ReadsTruth (edges : List Edge) (port : Condition) : Type 0 where
  pub operand : EdgeId
  pub read : operand_at edges port ≡ Some operand
  pub truth : type_of edges operand ≡ Some type.Truth

truth_is : (value : Bool) (x : Value) → (has_truth value x ≡ true) ↔ (x ≡ Truth value)
truth_is value x = (is_value value x, λ same. ap (has_truth value) same ∙ own value)
  where
    is_value : (value : Bool) (x : Value) → has_truth value x ≡ true → x ≡ Truth value
    is_value true (Truth b) h = ap Truth h
    is_value false (Truth b) h = ap Truth (not-true b h)
    is_value value (Word w) h = absurd (false≢true h)
    is_value value (Choice c) h = absurd (false≢true h)

    own : (value : Bool) → has_truth value (Truth value) ≡ true
    own true = refl
    own false = refl

pub condition_tells : (parts : Parts) (v : ℕ → Bool) (now : Table) → AllSized parts now → (frames : Frames) (t : ℕ) → frame_at frames t ≡ frame_of parts v now → (tag : Tag) → ReadsTruth parts.edges tag.condition
    → BitTells parts.edges frames v tag t (condition_bit parts.edges tag now)
condition_tells parts v now sized frames t here tag reads =
    let a = reads.operand in
    let bit_is : only (now a.0) ≡ condition_bit parts.edges tag now = ap (λ (o : Option EdgeId). option_map_or (λ (a : EdgeId). only (now a.0)) o (no 0)) (sym reads.read) in
    let law : truth v (as_pinned tag.value (only (now a.0))) ≡ has_truth tag.value (at_edge (frame_at frames t) a) =
    pinned_law parts v now sized tag.value a reads.truth ∙ ap (λ frame. has_truth tag.value (at_edge frame a)) (sym here) in
    let own : Tells v (as_pinned tag.value (only (now a.0))) (HasValue parts.edges frames tag.value (record { port = tag.condition; instant = t })) = (
      λ h. record { operand = a; read = reads.read; has = (truth_is tag.value (at_edge (frame_at frames t) a)).0 (sym law ∙ h) },
      λ h.
          let same : h.operand ≡ a = some_one h.operand a (sym h.read ∙ reads.read) in
          law ∙ (truth_is tag.value (at_edge (frame_at frames t) a)).1 (ap (at_edge (frame_at frames t)) (sym same) ∙ h.has),
    ) in
    subst (BitTells parts.edges frames v tag t) bit_is own

-- ---- all edges

pub length_tags : (n : ℕ) (edges : List Edge) (tag : Tag) (now : Table) (bit : Lit) (before : Option Past) (tags : List Lit) (order : List EdgeId) → length (tags_circuit n edges tag now bit before tags order).result ≡ length tags
length_tags n edges tag now bit before tags [] = refl
length_tags n edges tag now bit before tags (e ∷ order) =
    let one = tag_circuit n edges tag e now bit tags before in
    length_tags (after n one.entries) edges tag now bit before (slice_set tags e.0 one.result) order ∙ length-set tags e.0 one.result

-- the literals of these edges tell
abbrev pub DoneTell : List Edge → Frames → (ℕ → Bool) → Tag → ℕ → List EdgeId → List Lit → Type 0
DoneTell edges frames v tag t done tags = (a : EdgeId) → Contains done a → Tells v (lit_at tags a.0) (ReachesEdge edges frames tag a t)

done_more : (edges : List Edge) (frames : Frames) (v : ℕ → Bool) (tag : Tag) (t : ℕ) (done : List EdgeId) (tags : List Lit) (e : EdgeId) (l : Lit) → e.0 < length tags → (Contains done e → ⊥)
    → DoneTell edges frames v tag t done tags → Tells v l (ReachesEdge edges frames tag e t) → DoneTell edges frames v tag t (done ++ e ∷ []) (slice_set tags e.0 l)
done_more edges frames v tag t done tags e l within new told own a h = elim (Contains-push_cases done e a h) [
  | inr same ↦
      subst (λ (x : EdgeId). Tells v (lit_at (slice_set tags e.0 l) x.0) (ReachesEdge edges frames tag x t)) same
      (subst (λ (x : Lit). Tells v x (ReachesEdge edges frames tag e t)) (sym (get_or-set_same tags e.0 l (no 0) within)) own)
  | inl old ↦
      let apart : a.0 ≡ e.0 → ⊥ = λ q. new (subst (λ (x : EdgeId). Contains done x) (one_id a e q) old) in
      subst (λ (x : Lit). Tells v x (ReachesEdge edges frames tag a t)) (sym (get_or-set_other tags e.0 a.0 l (no 0) apart)) (told a old)
]

-- ---- the outputs

-- the literal of one of some outputs is true
pub record SomeTrue (v : ℕ → Bool) (tags : List Lit) (outputs : List EdgeId) : Type 0 where
  pub output : EdgeId
  pub listed : Contains outputs output
  pub true_there : truth v (lit_at tags output.0) ≡ true

pub outputs_tell : (v : ℕ → Bool) (n : ℕ) (tags : List Lit) (m : Lit) (outputs : List EdgeId) → Obeys v n (outputs_circuit n tags m outputs).entries
    → Tells v (outputs_circuit n tags m outputs).result ((truth v m ≡ true) ⊎ SomeTrue v tags outputs)
outputs_tell v n tags m [] o = (λ h. inl h, λ h. ⊎_elim (λ k. k) (λ k. none k.output k.listed) h)
outputs_tell v n tags m (e ∷ outputs) o =
    let rest = outputs_tell v (suc n) tags (yes n) outputs o.1 in
    let gate : truth v (yes n) ≡ (truth v m || truth v (lit_at tags e.0)) = truth-yes v n ∙ o.0 in (
      λ h. ⊎_elim
          (λ k. ⊎_elim (λ x. inl x) (λ x. inr (record { output = e; listed = first e e outputs refl; true_there = x })) (or_cases (truth v m) (truth v (lit_at tags e.0)) (sym gate ∙ k)))
          (λ k. inr (record { output = k.output; listed = later k.output e outputs k.listed; true_there = k.true_there }))
          (rest.0 h),
      λ h. rest.1 (⊎_elim
          (λ k. inl (gate ∙ or_left (truth v m) (truth v (lit_at tags e.0)) k))
          (λ k. ⊎_elim
          (λ same. inl (gate ∙ or_right (truth v m) (truth v (lit_at tags e.0)) (ap (λ (x : EdgeId). truth v (lit_at tags x.0)) same ∙ k.true_there)))
          (λ there. inr (record { output = k.output; listed = there; true_there = k.true_there }))
          (places k.output e outputs k.listed))
          h),
    )

-- ---- an instant

lit_second : (ls : List Lit) (a b : Lit) → lit_at (ls ++ a ∷ b ∷ []) (suc (length ls)) ≡ b
lit_second [] a b = refl
lit_second (l ∷ ls) a b = lit_second ls a b

last_second : (ls : List Lit) (a b : Lit) → last_lit (ls ++ a ∷ b ∷ []) ≡ b
last_second ls a b =
    let e : length (ls ++ a ∷ b ∷ []) - 1 ≡ suc (length ls) = omega (arith, length-append ls (a ∷ b ∷ [])) in
    ap (lit_at (ls ++ a ∷ b ∷ [])) e ∙ lit_second ls a b

module _ (parts : Parts) (valid : IsValid parts) (order : List EdgeId) (sequence : IsSequence parts.edges order) (v : ℕ → Bool) (one_true : v 0 ≡ true) (now : Table) (sized : AllSized parts now) (frames : Frames) (t : ℕ) (here : frame_at frames t ≡ frame_of parts v now) (tag : Tag) where
  tags_tell : (bit : Lit) → BitTells parts.edges frames v tag t bit → (before : Option Past) → BeforeTells parts.edges frames v tag t before
      → (n : ℕ) (done order : List EdgeId) (tags : List Lit) → StandBehind parts.edges done order → length tags ≡ length parts.edges → DoneTell parts.edges frames v tag t done tags
      → Obeys v n (tags_circuit n parts.edges tag now bit before tags order).entries
      → DoneTell parts.edges frames v tag t (done ++ order) (tags_circuit n parts.edges tag now bit before tags order).result
  tags_tell bit b before past n done [] tags c size told o = subst (λ (l : List EdgeId). DoneTell parts.edges frames v tag t l tags) (sym (append-nil done)) told
  tags_tell bit b before past n done (e ∷ order) tags c size told o =
      let one = tag_circuit n parts.edges tag e now bit tags before in
      let n1 = after n one.entries in
      let put = slice_set tags e.0 one.result in
      let rest = tags_circuit n1 parts.edges tag now bit before put order in
      let q = obeys_parts v n one.entries rest.entries o in
      let own = tag_tells parts valid v one_true now sized frames t here tag bit b before past n done e tags c.0 told q.0 in
      let within = c.0.within in
      let more = done_more parts.edges frames v tag t done tags e one.result (omega (arith, within, size)) c.0.new told own in
      subst (λ (l : List EdgeId). DoneTell parts.edges frames v tag t l rest.result) (append_assoc done (e ∷ []) order)
      (tags_tell bit b before past n1 (done ++ e ∷ []) order put c.1 (length-set tags e.0 one.result ∙ size) more q.1)

  -- the literals at an instant tell, and the last of them whether the condition is observed
  pub observation_tells : ReadsTruth parts.edges tag.condition → (n : ℕ) (before : Option (List Lit)) → BeforeTells parts.edges frames v tag t (past_in (length parts.edges) before)
      → Obeys v n (observation n parts.edges order parts.outputs tag now before).entries
      → KeptTells parts.edges frames v tag t (past_of (length parts.edges) (observation n parts.edges order parts.outputs tag now before).result)
      × Tells v (last_lit (observation n parts.edges order parts.outputs tag now before).result) (IsObserved parts frames tag t)
  observation_tells reads n before past o =
      let count = length parts.edges in
      let bit = condition_bit parts.edges tag now in
      let nothing = replicate count (no 0) in
      let all = tags_circuit n parts.edges tag now bit (past_in count before) nothing order in
      let n1 = after n all.entries in
      let met = outputs_circuit n1 all.result (no 0) parts.outputs in
      let ls = all.result ++ bit ∷ met.result ∷ [] in
      let q = obeys_parts v n all.entries met.entries o in
      let bit_tells = condition_tells parts v now sized frames t here tag reads in
      let told = tags_tell bit bit_tells (past_in count before) past n [] order nothing (stand_behind parts.edges [] order (causal_of parts.edges order sequence.least)) (length-replicate count (no 0)) (λ a h. none a h) q.0 in
      let size : length all.result ≡ count = length_tags n parts.edges tag now bit (past_in count before) nothing order ∙ length-replicate count (no 0) in
      let edge_tells : (e : EdgeId) → e.0 < count → Tells v (lit_at all.result e.0) (ReachesEdge parts.edges frames tag e t) = λ e lt. told e (sequence.full e lt) in
      let kept : (e : EdgeId) → e.0 < count → lit_at ls e.0 ≡ lit_at all.result e.0 = λ e lt. get_or_append_left all.result (bit ∷ met.result ∷ []) (no 0) e.0 (omega (arith, lt, size)) in
      let bit_is : lit_at ls count ≡ bit = get_or_at all.result bit (met.result ∷ []) (no 0) count size in
      let seen = outputs_tell v n1 all.result (no 0) parts.outputs q.1 in
      let within : (e : EdgeId) → Contains parts.outputs e → e.0 < count = λ e i. inside parts.outputs valid.outputs e i in
      let observed : Tells v met.result (IsObserved parts frames tag t) = (
        λ h. ⊎_elim
            (λ k. absurd (false≢true (sym (truth-no v 0 ∙ ap not one_true) ∙ k)))
            (λ k. record { output = k.output; listed = k.listed; reaches = (edge_tells k.output (within k.output k.listed)).0 k.true_there })
            (seen.0 h),
        λ x. seen.1 (inr (record { output = x.output; listed = x.listed; true_there = (edge_tells x.output (within x.output x.listed)).1 x.reaches })),
      ) in (
        record {
          tags = λ e lt. subst (λ (l : Lit). Tells v l (ReachesEdge parts.edges frames tag e t)) (sym (kept e lt)) (edge_tells e lt);
          bit = subst (BitTells parts.edges frames v tag t) (sym bit_is) bit_tells;
        },
        subst (λ (l : Lit). Tells v l (IsObserved parts frames tag t)) (sym (last_second all.result bit met.result)) observed,
      )
    where
      inside : (outputs : List EdgeId) → All (λ (e : EdgeId). e.0 < length parts.edges) outputs → (e : EdgeId) → Contains outputs e → e.0 < length parts.edges
      inside outputs all e i = All-contains (λ (x : EdgeId). x.0 < length parts.edges) outputs e all i
