-- How many variables the formula of a goal has at most.
use Rattle.std.proofs.Common.{◌≡◌, ℕ, zero, suc, ◌+◌, ◌*◌, ◌<◌, ◌≤◌, Bool, List, [], ◌∷◌, ◌++◌, length, map, refl, ap, subst, inl, inr, arith, eqb, false, true, replicate, Option, Some, None}
use Rattle.std.specs.Prelude.{slice_get, All, AllPairs, ◌≢◌}
use Rattle.std.specs.List.{AllByRecursion, IsDistinct, list_any}
use Rattle.std.specs.Option.{option_map_or}
use Rattle.std.proofs.lemmas.Bool.{eqb-true, ne_eqb, false≢true, or_cases}
use Rattle.std.proofs.lemmas.Map.Steps.{length-le_from_distinct_below}
use Rattle.std.proofs.lemmas.List.Elements.{All-get_or, recursion_from_All}
use Rattle.std.proofs.lemmas.Option.{slice_get_within, get_or_from_slice_get}
use Rattle.cnf_form.specs.declared.lit.Lit.{Lit}
use Rattle.op_network.specs.declared.edge.Edge.{Edge}
use Rattle.op_network.specs.declared.edge.EdgeId.{EdgeId}
use Rattle.op_network.specs.declared.edge.Parts.{Parts}
use Rattle.op_network.specs.declared.value.Ty.TheVariants as type
use Rattle.op_network.specs.Valid.{IsValid}
use Rattle.op_network.proofs.Typing.{typed_inside}
use Rattle.lus_causality.specs.Causality.{IsSequence}
use Rattle.lus_causality.proofs.Causal.{causal_of}
use Rattle.bit_blast.specs.Circuit.{Require, after, no, yes}
use Rattle.bit_blast.specs.Circuit as gate
use Rattle.bit_blast.proofs.Circuits.{after-append}
use Rattle.unroll_cnf.specs.Sizes.{costs, ports, size_of}
use Rattle.unroll_cnf.specs.Unrolled.{Table, first_part, words}
use Rattle.unroll_cnf.proofs.Order.{stand_behind}
use Rattle.unroll_cnf.proofs.Spending.{first_part_takes}
use Rattle.unroll_cnf.proofs.Totals.{ports_at}
use Rattle.unroll_cnf.proofs.Weights.{total_of, weigh_most}
use Rattle.unroll_cnf.proofs.Runs.{one_id}
use Rattle.dep_paths.specs.declared.path.Condition.{Condition}
use Rattle.dep_paths.specs.declared.path.Obligation.{Obligation}
use Rattle.dep_paths.specs.declared.path.Obligation.TheVariants.{Bc, Ecc, Mcc, Omc}
use Rattle.dep_paths.specs.declared.path.Path.{Path}
use Rattle.dep_paths.specs.declared.path.Pin.{Pin}
use Rattle.dep_paths.specs.Activation.{first_pin}
use Rattle.dep_paths.specs.Duties.{IsWithinLimits, Planned}
use Rattle.dep_paths.specs.Has.{InOrder}
use Rattle.dep_paths.specs.Observed.{Tag}
use Rattle.dep_paths.specs.Paths.{path_length}
use Rattle.dep_paths.proofs.Lists.{in_order_pairs}
use Rattle.goal_cnf.specs.Goal.{activation_in, adm_circuit, goal_entries, goal_hits, hits, last_lit, met_circuit, observation_in}
use Rattle.goal_cnf.specs.Observation.{condition_bit, observation, outputs_circuit, past_in, tags_circuit}
use Rattle.goal_cnf.proofs.CircuitSizes.{adm_takes, outputs_take, path_takes, tags_take}
use Rattle.goal_cnf.proofs.Words.{length_instants}

-- ---- different edges

abbrev places : List EdgeId → List ℕ
places es = map (λ (e : EdgeId). e.0) es

other_places : (e : EdgeId) (es : List EdgeId) → AllByRecursion (λ (x : EdgeId). e ≢ x) es → AllByRecursion (λ i. eqb e.0 i ≡ false) (places es)
other_places e [] apart = tt
other_places e (x ∷ es) apart = (ne_eqb e.0 x.0 (λ q. apart.0 (one_id e x q)), other_places e es apart.1)

different_places : (es : List EdgeId) → InOrder (λ (a b : EdgeId). a ≢ b) es → IsDistinct eqb (places es)
unfolding IsDistinct
different_places [] apart = tt
different_places (e ∷ es) apart = (other_places e es apart.0, different_places es apart.1)

places_within : (n : ℕ) (es : List EdgeId) → AllByRecursion (λ (e : EdgeId). e.0 < n) es → (i : ℕ) → list_any (eqb i) (places es) ≡ true → i < n
places_within n [] within i h = absurd (false≢true h)
places_within n (e ∷ es) within i h = elim (or_cases (eqb i e.0) (list_any (eqb i) (places es)) h) [
  | inl k ↦ omega (arith, eqb-true i e.0 k, within.0)
  | inr k ↦ places_within n es within.1 i k
]

length_places : (es : List EdgeId) → length (places es) ≡ length es
length_places [] = refl
length_places (e ∷ es) = ap suc (length_places es)

-- different edges of a network are at most all
few_different : (edges : List Edge) (es : List EdgeId) → AllPairs (λ (a b : EdgeId). a ≢ b) es → All (λ (e : EdgeId). e.0 < length edges) es → length es ≤ length edges
few_different edges es apart within =
    omega (
      arith,
      length_places es,
      length-le_from_distinct_below (places es) (length edges) (different_places es (in_order_pairs (λ (a b : EdgeId). a ≢ b) es apart))
          (places_within (length edges) es (recursion_from_All (λ (e : EdgeId). e.0 < length edges) es within)),
    )

-- ---- an obligation

-- what an obligation takes at an instant
abbrev most_met : Parts → ℕ
most_met parts = 3 * ports parts + length parts.edges + 192

module _ (parts : Parts) (valid : IsValid parts) (order : List EdgeId) (sequence : IsSequence parts.edges order) where
  few_outputs : length parts.outputs ≤ length parts.edges
  few_outputs = few_different parts.edges parts.outputs valid.once valid.outputs

  few_asserts : length parts.asserts ≤ length parts.edges
  few_asserts = few_different parts.edges parts.asserts valid.asserted_once (λ i d lt. typed_inside parts.edges _ type.Truth (valid.asserts i d lt))

  observation_takes : (n : ℕ) (tag : Tag) (now : Table) (before : Option (List Lit)) → after n (observation n parts.edges order parts.outputs tag now before).entries ≤ n + (3 * ports parts + length parts.edges)
  observation_takes n tag now before =
      let bit = condition_bit parts.edges tag now in
      let past = past_in (length parts.edges) before in
      let nothing = replicate (length parts.edges) (no 0) in
      let all = tags_circuit n parts.edges tag now bit past nothing order in
      let n1 = after n all.entries in
      let met = outputs_circuit n1 all.result (no 0) parts.outputs in
      let w : ℕ → ℕ = λ i. option_map_or ports_at (slice_get parts.edges i) 0 in
      omega (
        arith,
        after-append n all.entries met.entries,
        tags_take tag now bit past n parts.edges nothing order,
        outputs_take n1 all.result (no 0) parts.outputs,
        weigh_most parts.edges w [] order (stand_behind parts.edges [] order (causal_of parts.edges order sequence.least)),
        total_of ports_at parts.edges,
        few_outputs,
      )

  activation_takes : (n : ℕ) (pin : Option Pin) (p : Option Path) (now : Table) (before : Option (List Lit)) → ((q : Path) → p ≡ Some q → path_length q ≤ 64) → after n (activation_in n parts.edges pin p now before).entries ≤ n + most_met parts
  activation_takes n pin None now before short = omega arith
  activation_takes n pin (Some p) now before short = omega (arith, path_takes n parts.edges pin p now before, short p refl)

  observed_takes : (n : ℕ) (value : Bool) (c : Option Condition) (now : Table) (before : Option (List Lit)) → after n (observation_in n parts order value c now before).entries ≤ n + most_met parts
  observed_takes n value None now before = omega arith
  observed_takes n value (Some c) now before = omega (arith, observation_takes n (record { condition = c; value = value }) now before)

  module _ (plan : Planned) (limits : IsWithinLimits plan) where
    short_path : (place : ℕ) (p : Path) → slice_get plan.paths place ≡ Some p → path_length p ≤ 64
    short_path place p is =
        let at : path_length p ≤ plan.length = subst (λ (q : Path). path_length q ≤ plan.length) (get_or_from_slice_get plan.paths place p p is) (All-get_or (λ (q : Path). path_length q ≤ plan.length) plan.paths place p (slice_get_within plan.paths place p is) limits.short) in
        omega (arith, at, limits.most)

    met_takes : (n : ℕ) (o : Obligation) (now : Table) (before : Option (List Lit)) → after n (met_circuit n parts order plan o now before).entries ≤ n + most_met parts
    met_takes n (Bc path) now before = activation_takes n None (slice_get plan.paths path) now before (short_path path)
    met_takes n (Ecc path value) now before = activation_takes n (first_pin value) (slice_get plan.paths path) now before (short_path path)
    met_takes n (Mcc path pin) now before = activation_takes n pin (slice_get plan.paths path) now before (short_path path)
    met_takes n (Omc condition value) now before = observed_takes n value (slice_get plan.conditions condition) now before

    hits_take : (o : Obligation) (n : ℕ) (before : Option (List Lit)) (adm : Lit) (words : List Table) → after n (hits parts order plan o n before adm words).entries ≤ n + length words * (most_met parts + length parts.edges + 1)
    hits_take o n before adm [] = omega arith
    hits_take o n before adm (now ∷ words) =
        let met = met_circuit n parts order plan o now before in
        let n1 = after n met.entries in
        let admitted = adm_circuit n1 now adm parts.asserts in
        let n2 = after n1 admitted.entries in
        let rest = hits parts order plan o (suc n2) (Some met.result) admitted.result words in
        let hit = gate.And admitted.result (last_lit met.result) in
        omega (
          arith,
          after-append n met.entries (admitted.entries ++ (hit ∷ rest.entries)),
          after-append n1 admitted.entries (hit ∷ rest.entries),
          met_takes n o now before,
          adm_takes n1 now adm parts.asserts,
          few_asserts,
          hits_take o (suc n2) (Some met.result) admitted.result words,
        )

    -- the part behind the unrolled network ends within the size
    pub hits_few : (o : Obligation) (k : ℕ) → after (after 0 (first_part parts order k).entries) (goal_hits parts order plan o k).entries ≤ size_of parts k
    hits_few o k =
        let n = after 0 (first_part parts order k).entries in
        let goal = goal_hits parts order plan o k in
        let s = costs parts in
        let m = most_met parts + length parts.edges + 1 in
        let r = 4 * ports parts + 4 * length parts.edges + 260 in
        let long : length (words parts order k) ≡ k = length_instants parts order k None 1 in
        let most : after n goal.entries ≤ n + k * m = subst (λ j. after n goal.entries ≤ n + j * m) long (hits_take o n None (yes 0) (words parts order k)) in
        let less : m ≤ r = omega arith in
        let same : s + r ≡ s + 4 * ports parts + 4 * length parts.edges + 260 = omega arith in
        omega (arith, first_part_takes parts valid order k sequence, most, within k s m r less, ap (λ x. k * x) same)
      where
        within : (k s m r : ℕ) → m ≤ r → k * s + k * m ≤ k * (s + r)
        within zero s m r le = omega arith
        within (suc k) s m r le = omega (arith, within k s m r le, le)

    -- and so does the whole formula
    pub goal_few : (o : Obligation) (k : ℕ) → after 0 (goal_entries parts order plan o k) ≤ size_of parts k
    goal_few o k =
        let one = first_part parts order k in
        let goal = goal_hits parts order plan o k in
        omega (
          arith,
          after-append 0 one.entries (goal.entries ++ Require goal.result ∷ []),
          after-append (after 0 one.entries) goal.entries (Require goal.result ∷ []),
          hits_few o k,
        )
