-- The pins of a plan's obligations are on edges that are truths, and so are the operands of its conditions.
use Rattle.std.proofs.Common.{◌≡◌, ℕ, zero, suc, ◌+◌, Bool, true, false, List, [], ◌∷◌, ◌++◌, length, map, refl, sym, ap, ◌∙◌, subst, inl, inr, arith, Option, Some, None}
use Rattle.std.specs.Prelude.{slice_get, not, Contains}
use Rattle.std.specs.List.{enumerate_from, range_with_len}
use Rattle.std.specs.Option.{option_map, option_map_or}
use Rattle.std.proofs.lemmas.Bool.{and_parts, cases_Bool, false≢true}
use Rattle.op_network.specs.declared.edge.Edge.{Edge}
use Rattle.op_network.specs.declared.edge.EdgeId.{EdgeId}
use Rattle.op_network.specs.declared.edge.Parts.{Parts}
use Rattle.op_network.specs.declared.value.Ty.TheVariants as type
use Rattle.op_network.specs.Operators.{is_same_type}
use Rattle.op_network.specs.Valid.{type_of}
use Rattle.unroll_cnf.proofs.Operators.{type_one}
use Rattle.dep_paths.specs.declared.path.Condition.{Condition}
use Rattle.dep_paths.specs.declared.path.Obligation.{Obligation}
use Rattle.dep_paths.specs.declared.path.Obligation.TheVariants.{Bc, Ecc, Mcc, Omc}
use Rattle.dep_paths.specs.declared.path.Path.{Path}
use Rattle.dep_paths.specs.declared.path.Pin.{Pin}
use Rattle.dep_paths.specs.declared.path.Step.{Step}
use Rattle.dep_paths.specs.Activation.{first_pin}
use Rattle.dep_paths.specs.Conditions.{all_ports, conditions, counts_operand, is_asserted, is_condition, is_truth_edge, operand_at}
use Rattle.dep_paths.specs.Duties.{Planned, IsPlanOf, basic_coverage, duties, each_or_plain, edges_on, elementary_conditions, elementary_duties, multiple_conditions, multiple_duties, observable_conditions, path_duties, condition_duties, pin_at, pins_at, pins_on, truths_of}
use Rattle.dep_paths.specs.Has.{Has}
use Rattle.dep_paths.proofs.Lists.{Has-append, Has-filter, Has-map, Has-flat_map, has_contains}
use Rattle.goal_cnf.proofs.Observation.{ReadsTruth}
use Rattle.goal_cnf.proofs.Obligations.{FitsIn, FitsOn, FitsGoal}
use Rattle.goal_cnf.proofs.Places.{PinsFit}

-- ---- lists

-- what is numbered stands at its place
numbered_at : {X : Type 0} (n : ℕ) (xs : List X) (i : ℕ) (x : X) → Has (enumerate_from n xs) (i, x) → (k : ℕ) × (i ≡ n + k) × (slice_get xs k ≡ Some x)
numbered_at n [] i x h = absurd h
numbered_at n (y ∷ xs) i x h = elim h [
  | inl e ↦ (0, sym (ap (λ z. z.0) e) ∙ omega arith, ap (λ z. Some z.1) e)
  | inr k ↦
      let r = numbered_at (suc n) xs i x (subst (λ m. Has (enumerate_from m xs) (i, x)) (omega arith) k) in
      (suc r.0, r.1 ∙ omega arith, r.2)
]

each_has : {X : Type 0} (xs : List X) (x : X) → Has (each_or_plain xs) (Some x) → Has xs x
each_has [] x h = elim h [ inl e ↦ absurd (cc) | inr k ↦ absurd k ]
each_has (y ∷ xs) x h = elim h [
  | inl e ↦ inl (let k : y ≡ x = cc in k)
  | inr k ↦ let r = Has-map Some xs (Some x) k in inr (subst (Has xs) (let e : r.0 ≡ x = let q = r.2 in cc in e) r.1)
]

-- ---- truths

truth_edge : (edges : List Edge) (e : EdgeId) → is_truth_edge edges e ≡ true → type_of edges e ≡ Some type.Truth
truth_edge edges e h = go (slice_get edges e.0) h
  where
    go : (o : Option Edge) → option_map_or (λ (edge : Edge). is_same_type edge.ty type.Truth) o false ≡ true → option_map (λ (edge : Edge). edge.ty) o ≡ Some type.Truth
    go None h = absurd (cc)
    go (Some edge) h = ap Some (type_one edge.ty type.Truth h)

asked_truth : (edges : List Edge) (e : EdgeId) (b : Bool) → Has (truths_of edges e) b → type_of edges e ≡ Some type.Truth
asked_truth edges e b h = elim (cases_Bool (is_truth_edge edges e)) [
  | inl c ↦ truth_edge edges e c
  | inr c ↦ let k : Has [] b = rw c at h in absurd k
]

-- ---- obligations

no_pins : (parts : Parts) (p : Option Path) → FitsIn parts None p
no_pins parts None = tt
no_pins parts (Some p) = record { first = tt; later = λ i s is. tt }

module _ (parts : Parts) (paths : List Path) where
  at_path : (pin : Option Pin) (path : ℕ) (at : ℕ × Path) → Has (enumerate_from 0 paths) at → at.0 ≡ path → PinsFit parts pin at.1 → FitsIn parts pin (slice_get paths path)
  at_path pin path at h e f =
      let r = numbered_at 0 paths at.0 at.1 h in
      let k : r.0 ≡ path = sym (r.1 ∙ omega arith) ∙ e in
      let is : slice_get paths path ≡ Some at.1 = ap (slice_get paths) (sym k) ∙ r.2 in
      subst (FitsIn parts pin) (sym is) f

  elementary_fits : (path : ℕ) (b : Bool) → Has (elementary_conditions parts.edges paths) (Ecc path (Some b)) → FitsIn parts (first_pin (Some b)) (slice_get paths path)
  elementary_fits path b h =
      let r = Has-flat_map (elementary_duties parts.edges) (enumerate_from 0 paths) (Ecc path (Some b)) h in
      let at = r.0 in
      let s = Has-map (Ecc at.0) (each_or_plain (truths_of parts.edges at.1.start)) (Ecc path (Some b)) r.2 in
      let q = s.2 in
      let place : at.0 ≡ path = cc in
      let value : s.0 ≡ Some b = cc in
      let truth = asked_truth parts.edges at.1.start b (each_has (truths_of parts.edges at.1.start) b (subst (Has (each_or_plain (truths_of parts.edges at.1.start))) value s.1)) in
      at_path (first_pin (Some b)) path at r.1 place (record { first = λ e. truth; later = λ i s is e. absurd (omega (arith, e)) })

  pinned_edge : (p : Path) (j : ℕ) (e : EdgeId) (pin : Pin) → slice_get (edges_on p) j ≡ Some e → type_of parts.edges e ≡ Some type.Truth → pin.place ≡ j → PinsFit parts (Some pin) p
  pinned_edge p j e pin is t at = record {
    first = λ z.
        let same : 0 ≡ j = z ∙ at in
        let k : slice_get (edges_on p) 0 ≡ Some e = ap (slice_get (edges_on p)) same ∙ is in
        let one : e ≡ p.start = cc in
        subst (λ (x : EdgeId). type_of parts.edges x ≡ Some type.Truth) one t;
    later = λ i s here z.
        let same : suc i ≡ j = z ∙ at in
        let k : slice_get (edges_on p) (suc i) ≡ Some e = ap (slice_get (edges_on p)) same ∙ is in
        let l : slice_get (map (λ (s : Step). s.edge) p.steps) i ≡ Some s.edge = mapped p.steps i s here in
        let one : e ≡ s.edge = cc in
        subst (λ (x : EdgeId). type_of parts.edges x ≡ Some type.Truth) one t;
  }
    where
      mapped : (steps : List Step) (i : ℕ) (s : Step) → slice_get steps i ≡ Some s → slice_get (map (λ (s : Step). s.edge) steps) i ≡ Some s.edge
      mapped [] i s is = absurd (cc)
      mapped (x ∷ steps) zero s is = let e : x ≡ s = cc in ap (λ (y : Step). Some y.edge) e
      mapped (x ∷ steps) (suc i) s is = mapped steps i s is

  multiple_fits : (path : ℕ) (pin : Pin) → Has (multiple_conditions parts.edges paths) (Mcc path (Some pin)) → FitsIn parts (Some pin) (slice_get paths path)
  multiple_fits path pin h =
      let r = Has-flat_map (multiple_duties parts.edges) (enumerate_from 0 paths) (Mcc path (Some pin)) h in
      let at = r.0 in
      let s = Has-map (Mcc at.0) (each_or_plain (pins_on parts.edges at.1)) (Mcc path (Some pin)) r.2 in
      let q = s.2 in
      let place : at.0 ≡ path = cc in
      let value : s.0 ≡ Some pin = cc in
      let one : Has (pins_on parts.edges at.1) pin = each_has (pins_on parts.edges at.1) pin (subst (Has (each_or_plain (pins_on parts.edges at.1))) value s.1) in
      let u = Has-flat_map (pins_at parts.edges) (enumerate_from 0 (edges_on at.1)) pin one in
      let edge = u.0 in
      let w = Has-map (pin_at edge.0) (truths_of parts.edges edge.1) pin u.2 in
      let k = numbered_at 0 (edges_on at.1) edge.0 edge.1 u.1 in
      at_path (Some pin) path at r.1 place
      (pinned_edge at.1 k.0 edge.1 pin k.2 (asked_truth parts.edges edge.1 w.0 w.1) (sym (ap (λ (x : Pin). x.place) w.2) ∙ (k.1 ∙ omega arith)))

  -- an obligation on a path is on none of the conditions
  on_path : (count : ℕ) (o : Obligation) → ((place : ℕ) (value : Bool) → o ≡ Omc place value → ⊥) → Has (path_duties parts.edges paths ++ observable_conditions count) o → Has (path_duties parts.edges paths) o
  on_path count o other h = elim (Has-append (path_duties parts.edges paths) (observable_conditions count) o h) [
    | inl k ↦ k
    | inr k ↦
        let r = Has-flat_map condition_duties (range_with_len 0 count) o k in
        elim r.2 [
          | inl e ↦ absurd (other r.0 true (sym e))
          | inr e ↦ elim e [
            | inl e ↦ absurd (other r.0 false (sym e))
            | inr e ↦ absurd e
          ]
        ]
  ]

  elementary_on : (path : ℕ) (b : Bool) → Has (path_duties parts.edges paths) (Ecc path (Some b)) → FitsIn parts (first_pin (Some b)) (slice_get paths path)
  elementary_on path b h = elim (Has-append (basic_coverage paths ++ elementary_conditions parts.edges paths) (multiple_conditions parts.edges paths) (Ecc path (Some b)) h) [
    | inr l ↦
        let r = Has-flat_map (multiple_duties parts.edges) (enumerate_from 0 paths) (Ecc path (Some b)) l in
        let s = Has-map (Mcc r.0.0) (each_or_plain (pins_on parts.edges r.0.1)) (Ecc path (Some b)) r.2 in
        let q = s.2 in
        absurd (cc)
    | inl k ↦ elim (Has-append (basic_coverage paths) (elementary_conditions parts.edges paths) (Ecc path (Some b)) k) [
      | inl l ↦ let r = Has-map Bc (range_with_len 0 (length paths)) (Ecc path (Some b)) l in let q = r.2 in absurd (cc)
      | inr l ↦ elementary_fits path b l
    ]
  ]

  multiple_on : (path : ℕ) (pin : Pin) → Has (path_duties parts.edges paths) (Mcc path (Some pin)) → FitsIn parts (Some pin) (slice_get paths path)
  multiple_on path pin h = elim (Has-append (basic_coverage paths ++ elementary_conditions parts.edges paths) (multiple_conditions parts.edges paths) (Mcc path (Some pin)) h) [
    | inr l ↦ multiple_fits path pin l
    | inl k ↦ elim (Has-append (basic_coverage paths) (elementary_conditions parts.edges paths) (Mcc path (Some pin)) k) [
      | inl l ↦ let r = Has-map Bc (range_with_len 0 (length paths)) (Mcc path (Some pin)) l in let q = r.2 in absurd (cc)
      | inr l ↦
          let r = Has-flat_map (elementary_duties parts.edges) (enumerate_from 0 paths) (Mcc path (Some pin)) l in
          let s = Has-map (Ecc r.0.0) (each_or_plain (truths_of parts.edges r.0.1.start)) (Mcc path (Some pin)) r.2 in
          let q = s.2 in
          absurd (cc)
    ]
  ]

-- ---- conditions

has_at : {X : Type 0} (xs : List X) (i : ℕ) (x : X) → slice_get xs i ≡ Some x → Has xs x
has_at [] i x is = absurd (cc)
has_at (y ∷ xs) zero x is = inl (let k : y ≡ x = cc in k)
has_at (y ∷ xs) (suc i) x is = inr (has_at xs i x is)

-- a condition reads a truth
reads_truth : (edges : List Edge) (c : Condition) → is_condition edges c ≡ true → ReadsTruth edges c
reads_truth edges c h = by_operand (operand_at edges c) refl (and_parts (not (is_asserted edges c.edge)) (option_map_or (counts_operand edges) (operand_at edges c) false) h).1
  where
    by_operand : (o : Option EdgeId) → operand_at edges c ≡ o → option_map_or (counts_operand edges) o false ≡ true → ReadsTruth edges c
    by_operand None is counts = absurd (false≢true counts)
    by_operand (Some a) is counts = record { operand = a; read = is; truth = truth_edge edges a (and_parts (is_truth_edge edges a) _ counts).0 }

condition_fits : (parts : Parts) (listed : List Condition) → listed ≡ conditions parts.edges → (place : ℕ) (c : Option Condition) → slice_get listed place ≡ c → FitsOn parts c
condition_fits parts listed are place None is = tt
condition_fits parts listed are place (Some c) is =
    reads_truth parts.edges c (Has-filter (is_condition parts.edges) (all_ports parts.edges) c (subst (λ (cs : List Condition). Has cs c) are (has_at listed place c is))).1

-- ---- a plan

in_duties : (parts : Parts) (plan : Planned) → plan.conditions ≡ conditions parts.edges → (o : Obligation) → Has (duties parts.edges plan.paths) o → FitsGoal parts plan o
in_duties parts plan are (Bc path) h = no_pins parts (slice_get plan.paths path)
in_duties parts plan are (Omc place value) h = condition_fits parts plan.conditions are place (slice_get plan.conditions place) refl
in_duties parts plan are (Ecc path None) h = no_pins parts (slice_get plan.paths path)
in_duties parts plan are (Mcc path None) h = no_pins parts (slice_get plan.paths path)
in_duties parts plan are (Ecc path (Some b)) h = elementary_on parts plan.paths path b (on_path parts plan.paths (length (conditions parts.edges)) (Ecc path (Some b)) (λ place value e. absurd (cc)) h)
in_duties parts plan are (Mcc path (Some pin)) h = multiple_on parts plan.paths path pin (on_path parts plan.paths (length (conditions parts.edges)) (Mcc path (Some pin)) (λ place value e. absurd (cc)) h)

pub plan_fits : (parts : Parts) (plan : Planned) (o : Obligation) → IsPlanOf parts plan → Contains plan.duties o → FitsGoal parts plan o
plan_fits parts plan o is i = in_duties parts plan is.conditional o (subst (λ (l : List Obligation). Has l o) is.asked (has_contains plan.duties o i))
