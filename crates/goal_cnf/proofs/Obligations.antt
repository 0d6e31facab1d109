-- The literals of an obligation at an instant tell, and the last of them whether it is met.
use Rattle.std.proofs.Common.{◌≡◌, ◌↔◌, ℕ, suc, ◌-◌, Bool, true, false, not, List, [], ◌∷◌, length, refl, sym, ap, ◌∙◌, subst, arith, Option, Some, None}
use Rattle.std.specs.Prelude.{slice_get}
use Rattle.std.specs.Option.{option_map_or}
use Rattle.cnf_form.specs.declared.lit.Lit.{Lit}
use Rattle.cnf_form.specs.Lits.{truth}
use Rattle.op_network.specs.declared.edge.Edge.{Edge}
use Rattle.op_network.specs.declared.edge.EdgeId.{EdgeId}
use Rattle.op_network.specs.declared.edge.Parts.{Parts}
use Rattle.op_network.specs.Valid.{IsValid}
use Rattle.lus_causality.specs.Causality.{IsSequence}
use Rattle.bit_blast.specs.Circuit.{after, yes, no}
use Rattle.bit_blast.proofs.Values.{Obeys}
use Rattle.bit_blast.proofs.Circuits.{truth-no}
use Rattle.unroll_cnf.specs.Laws.{frame_of}
use Rattle.unroll_cnf.specs.Unrolled.{Table, only}
use Rattle.dep_paths.specs.declared.path.Condition.{Condition}
use Rattle.dep_paths.specs.declared.path.Obligation.{Obligation}
use Rattle.dep_paths.specs.declared.path.Obligation.TheVariants.{Bc, Ecc, Mcc, Omc}
use Rattle.dep_paths.specs.declared.path.Path.{Path}
use Rattle.dep_paths.specs.declared.path.Pin.{Pin}
use Rattle.dep_paths.specs.Activation.{Frames, frame_at, first_pin, is_active}
use Rattle.dep_paths.specs.Coverage.{Met, Observes}
use Rattle.dep_paths.specs.Duties.{Planned}
use Rattle.dep_paths.specs.Observed.{Tag, IsObserved}
use Rattle.goal_cnf.specs.Activity.{lit_at, path_circuit, pin_circuit}
use Rattle.goal_cnf.specs.Goal.{activation_in, last_lit, met_circuit, observation_in}
use Rattle.goal_cnf.specs.Observation.{past_in}
use Rattle.goal_cnf.proofs.Activity.{PastTells, path_law, length_steps}
use Rattle.goal_cnf.proofs.Observation.{ReadsTruth, observation_tells}
use Rattle.goal_cnf.proofs.Places.{AllSized, PinsFit}
use Rattle.goal_cnf.proofs.Ports.{Tells, some_one}
use Rattle.goal_cnf.proofs.Reaching.{BeforeTells, false_tells}

-- ---- what fits

-- the pins of the path at a place fit
abbrev pub FitsIn : Parts → Option Pin → Option Path → Type 0
FitsIn parts pin None = Unit {0}
FitsIn parts pin (Some p) = PinsFit parts pin p

-- the condition at a place reads a truth
abbrev pub FitsOn : Parts → Option Condition → Type 0
FitsOn parts None = Unit {0}
FitsOn parts (Some c) = ReadsTruth parts.edges c

-- the pins of an obligation are on edges that are truths, and its condition reads a truth
abbrev pub FitsGoal : Parts → Planned → Obligation → Type 0
FitsGoal parts plan (Bc path) = FitsIn parts None (slice_get plan.paths path)
FitsGoal parts plan (Ecc path value) = FitsIn parts (first_pin value) (slice_get plan.paths path)
FitsGoal parts plan (Mcc path pin) = FitsIn parts pin (slice_get plan.paths path)
FitsGoal parts plan (Omc condition value) = FitsOn parts (slice_get plan.conditions condition)

-- ---- what is there of the instant before

abbrev pub PastIn : List Edge → Frames → Option Pin → (ℕ → Bool) → ℕ → Option Path → Option (List Lit) → Type 0
PastIn edges frames pin v t None before = Unit {0}
PastIn edges frames pin v t (Some p) before = PastTells edges frames p pin v t before

abbrev pub PastOn : List Edge → Frames → Bool → (ℕ → Bool) → ℕ → Option Condition → Option (List Lit) → Type 0
PastOn edges frames value v t None before = Unit {0}
PastOn edges frames value v t (Some c) before = BeforeTells edges frames v (record { condition = c; value = value }) t (past_in (length edges) before)

-- the literals of an obligation at the instant before tell
abbrev pub PastGoal : List Edge → Planned → Frames → Obligation → (ℕ → Bool) → ℕ → Option (List Lit) → Type 0
PastGoal edges plan frames (Bc path) v t before = PastIn edges frames None v t (slice_get plan.paths path) before
PastGoal edges plan frames (Ecc path value) v t before = PastIn edges frames (first_pin value) v t (slice_get plan.paths path) before
PastGoal edges plan frames (Mcc path pin) v t before = PastIn edges frames pin v t (slice_get plan.paths path) before
PastGoal edges plan frames (Omc condition value) v t before = PastOn edges frames value v t (slice_get plan.conditions condition) before

no_past_in : (edges : List Edge) (frames : Frames) (pin : Option Pin) (v : ℕ → Bool) (p : Option Path) → PastIn edges frames pin v 0 p None
no_past_in edges frames pin v None = tt
no_past_in edges frames pin v (Some p) = tt

no_past_on : (edges : List Edge) (frames : Frames) (value : Bool) (v : ℕ → Bool) (c : Option Condition) → PastOn edges frames value v 0 c None
no_past_on edges frames value v None = tt
no_past_on edges frames value v (Some c) = tt

pub no_past : (edges : List Edge) (plan : Planned) (frames : Frames) (o : Obligation) (v : ℕ → Bool) → PastGoal edges plan frames o v 0 None
no_past edges plan frames (Bc path) v = no_past_in edges frames None v (slice_get plan.paths path)
no_past edges plan frames (Ecc path value) v = no_past_in edges frames (first_pin value) v (slice_get plan.paths path)
no_past edges plan frames (Mcc path pin) v = no_past_in edges frames pin v (slice_get plan.paths path)
no_past edges plan frames (Omc condition value) v = no_past_on edges frames value v (slice_get plan.conditions condition)

-- ---- the circuits

same_tells : (a b : Bool) → a ≡ b → (a ≡ true) ↔ (b ≡ true)
same_tells a b same = (λ h. sym same ∙ h, λ h. same ∙ h)

never_law : (v : ℕ → Bool) → v 0 ≡ true → truth v (last_lit (no 0 ∷ [])) ≡ false
never_law v one_true = let e : length (no 0 ∷ []) - 1 ≡ 0 = omega arith in ap (λ i. truth v (lit_at (no 0 ∷ []) i)) e ∙ (truth-no v 0 ∙ ap not one_true)

module _ (parts : Parts) (valid : IsValid parts) (order : List EdgeId) (sequence : IsSequence parts.edges order) (plan : Planned) (v : ℕ → Bool) (one_true : v 0 ≡ true) (frames : Frames) (now : Table) (sized : AllSized parts now) (t : ℕ) (here : frame_at frames t ≡ frame_of parts v now) (n : ℕ) (before : Option (List Lit)) where
  -- the literals of a path tell, and the last of them tells whether it is active
  activation_law : (pin : Option Pin) (p : Option Path) → FitsIn parts pin p → PastIn parts.edges frames pin v t p before →
      Obeys v n (activation_in n parts.edges pin p now before).entries →
      PastIn parts.edges frames pin v (suc t) p (Some (activation_in n parts.edges pin p now before).result)
      × Tells v (last_lit (activation_in n parts.edges pin p now before).result) (option_map_or (λ (p : Path). is_active parts.edges frames p pin (length p.steps) t) p false ≡ true)
  activation_law pin None f b o = (tt, false_tells _ (never_law v one_true) (λ h. absurd (cc)))
  activation_law pin (Some p) f b o =
      let one = pin_circuit n pin 0 (only (now p.start.0)) (yes 0) in
      let ls = (path_circuit n parts.edges pin p now before).result in
      let tells = path_law parts valid v one_true now sized frames t here pin p f n before b o in
      let e : length ls - 1 ≡ length p.steps = omega (arith, length_steps (after n one.entries) parts.edges pin 0 now one.result before p.steps) in
      (tells, same_tells (truth v (last_lit ls)) (is_active parts.edges frames p pin (length p.steps) t) (ap (λ i. truth v (lit_at ls i)) e ∙ tells (length p.steps) (omega arith)))

  -- those of a condition tell, and the last of them tells whether it is observed
  observed_law : (place : ℕ) (value : Bool) (c : Option Condition) → slice_get plan.conditions place ≡ c → FitsOn parts c → PastOn parts.edges frames value v t c before →
      Obeys v n (observation_in n parts order value c now before).entries →
      PastOn parts.edges frames value v (suc t) c (Some (observation_in n parts order value c now before).result)
      × Tells v (last_lit (observation_in n parts order value c now before).result) (Observes parts plan.conditions frames place value t)
  observed_law place value None is f b o = (tt, false_tells _ (never_law v one_true) (λ h. let k : None ≡ Some h.condition = sym is ∙ h.listed in absurd (cc)))
  observed_law place value (Some c) is f b o =
      let tag : Tag = record { condition = c; value = value } in
      let told = observation_tells parts valid order sequence v one_true now sized frames t here tag f n before b o in (
        told.0,
        (
          λ h. record { condition = c; listed = is; observed = told.1.0 h },
          λ h. told.1.1 (subst (λ (x : Condition). IsObserved parts frames (record { condition = x; value = value }) t) (some_one h.condition c (sym h.listed ∙ is)) h.observed),
        ),
      )

  pub met_law : (o : Obligation) → FitsGoal parts plan o → PastGoal parts.edges plan frames o v t before →
      Obeys v n (met_circuit n parts order plan o now before).entries →
      PastGoal parts.edges plan frames o v (suc t) (Some (met_circuit n parts order plan o now before).result)
      × Tells v (last_lit (met_circuit n parts order plan o now before).result) (Met parts plan frames o t)
  met_law (Bc path) f b o = activation_law None (slice_get plan.paths path) f b o
  met_law (Ecc path value) f b o = activation_law (first_pin value) (slice_get plan.paths path) f b o
  met_law (Mcc path pin) f b o = activation_law pin (slice_get plan.paths path) f b o
  met_law (Omc condition value) f b o = observed_law condition value (slice_get plan.conditions condition) refl f b o
