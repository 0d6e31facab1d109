-- The paths and conditions of a plan are of the network, and its obligations are on them.
use Rattle.std.proofs.Common.{◌≡◌, ℕ, zero, suc, ◌+◌, ◌<◌, true, false, not, List, [], ◌∷◌, ◌++◌, length, get_or, refl, sym, ap, ◌∙◌, subst, inl, inr, arith, Option, Some, None, Result, Ok, Err, IfOk}
use Rattle.std.specs.Prelude.{slice_get, All, Contains}
use Rattle.std.specs.List.{enumerate_from, range_with_len}
use Rattle.std.specs.Option.{option_map_or}
use Rattle.std.proofs.lemmas.Bool.{and_parts, false≢true}
use Rattle.std.proofs.lemmas.Option.{slice_get-get_or, slice_get_within}
use Rattle.cov_base.specs.declared.memory.Memory.{Memory}
use Rattle.op_network.specs.declared.edge.Edge.{Edge}
use Rattle.op_network.specs.declared.edge.EdgeId.{EdgeId}
use Rattle.op_network.specs.declared.edge.Parts.{Parts}
use Rattle.op_network.specs.Operators.{operands_in, operands_of}
use Rattle.op_network.specs.Valid.{IsValid}
use Rattle.dep_paths.specs.declared.path.Condition.{Condition}
use Rattle.dep_paths.specs.declared.path.Obligation.{Obligation}
use Rattle.dep_paths.specs.declared.path.Obligation.TheVariants.{Bc, Ecc, Mcc}
use Rattle.dep_paths.specs.declared.path.Path.{Path}
use Rattle.dep_paths.specs.declared.path.Step.{Step}
use Rattle.dep_paths.specs.Conditions.{all_ports, conditions, counts_operand, is_asserted, is_condition, operand_at}
use Rattle.dep_paths.specs.Duties.{IsPlanOf, IsWithinLimits, Planned, basic_coverage, condition_duties, each_or_plain, elementary_conditions, elementary_duties, multiple_conditions, multiple_duties, observable_conditions, path_duties, pins_on, truths_of}
use Rattle.dep_paths.specs.Has.{Has}
use Rattle.dep_paths.specs.Paths.{Follows}
use Rattle.dep_paths.proofs.Lists.{Contains-has, Has-append, Has-filter, Has-flat_map, Has-map, Has-range, has_contains, has_get_or}
use Rattle.dep_paths.proofs.Valid.{closed_of}
use Rattle.goal_cnf.specs.declared.formula.Goal.{Goal}
use Rattle.goal_cnf.specs.Made.{IsConditionIn, IsGoal, IsGoalOf, IsListed, IsPathIn, IsPlanIn}

-- an edge that has an operand is an edge
reader_there : (edges : List Edge) (e a : EdgeId) (port : ℕ) → slice_get (operands_of edges e) port ≡ Some a → e.0 < length edges
reader_there edges e a port is = go (slice_get edges e.0) refl is
  where
    go : (o : Option Edge) → slice_get edges e.0 ≡ o → slice_get (operands_in o) port ≡ Some a → e.0 < length edges
    go None at is = absurd (cc)
    go (Some edge) at is = slice_get_within edges e.0 edge at

steps_there : (edges : List Edge) (before : EdgeId) (steps : List Step) → Follows edges before steps → All (λ (s : Step). s.edge.0 < length edges) steps
steps_there edges before [] f j d lt = absurd (omega arith)
steps_there edges before (s ∷ steps) f zero d lt = reader_there edges s.edge before s.port f.0
steps_there edges before (s ∷ steps) f (suc j) d lt = steps_there edges s.edge steps f.1 j d (omega arith)

-- the obligation at a place
pub duty_at : (plan : Planned) (read : List Obligation) (place : ℕ) (o d : Obligation) → read ≡ plan.duties → place < length plan.duties → o ≡ get_or read place d → slice_get plan.duties place ≡ Some o
duty_at plan read place o d same lt is = slice_get-get_or plan.duties place d lt ∙ ap Some (sym (is ∙ ap (λ (l : List Obligation). get_or l place d) same))

-- a condition is a port
condition_there : (parts : Parts) (c : Condition) → is_condition parts.edges c ≡ true → IsConditionIn parts c
condition_there parts c h = go (operand_at parts.edges c) refl (and_parts (not (is_asserted parts.edges c.edge)) (option_map_or (counts_operand parts.edges) (operand_at parts.edges c) false) h).1
  where
    go : (o : Option EdgeId) → operand_at parts.edges c ≡ o → option_map_or (counts_operand parts.edges) o false ≡ true → IsConditionIn parts c
    go None is counts = absurd (false≢true counts)
    go (Some a) is counts = record { edge = reader_there parts.edges c.edge a c.port is; port = slice_get_within (operands_of parts.edges c.edge) c.port a is }

pub has_at : (xs : List Obligation) (i : ℕ) (x : Obligation) → slice_get xs i ≡ Some x → Has xs x
has_at [] i x is = absurd (cc)
has_at (y ∷ xs) zero x is = inl (let k : y ≡ x = cc in k)
has_at (y ∷ xs) (suc i) x is = inr (has_at xs i x is)

module _ (parts : Parts) (valid : IsValid parts) (plan : Planned) (is : IsPlanOf parts plan) where
  path_there : IsWithinLimits plan → (p : Path) → Contains plan.paths p → IsPathIn parts p
  path_there limits p i =
      let complete = (is.listed.each p).0 i in
      record {
        start = (closed_of parts valid).inputs p.start (has_contains parts.inputs p.start complete.0.starts);
        steps = steps_there parts.edges p.start p.steps complete.0.path;
        short = omega (arith, complete.1, limits.most);
      }

  pub plan_there : IsWithinLimits plan → IsPlanIn parts plan
  plan_there limits = record {
    paths = λ j d lt. path_there limits (get_or plan.paths j d) (Contains-has plan.paths (get_or plan.paths j d) (has_get_or plan.paths j d lt));
    conditions = λ j d lt.
        condition_there parts (get_or plan.conditions j d)
        (Has-filter (is_condition parts.edges) (all_ports parts.edges) (get_or plan.conditions j d)
        (subst (λ (l : List Condition). Has l (get_or plan.conditions j d)) is.conditional (has_get_or plan.conditions j d lt))).1;
  }

  numbered_below : (n : ℕ) (xs : List Path) (at : ℕ × Path) → Has (enumerate_from n xs) at → at.0 < n + length xs
  numbered_below n [] at h = absurd h
  numbered_below n (x ∷ xs) at h = elim h [
    | inl e ↦ omega (arith, ap (λ z. z.0) e)
    | inr k ↦ omega (arith, numbered_below (suc n) xs at (subst (λ m. Has (enumerate_from m xs) at) (omega arith) k))
  ]

  on_path : (o : Obligation) → Has (path_duties parts.edges plan.paths) o → IsListed plan o
  on_path o h = elim (Has-append (basic_coverage plan.paths ++ elementary_conditions parts.edges plan.paths) (multiple_conditions parts.edges plan.paths) o h) [
    | inr l ↦
        let r = Has-flat_map (multiple_duties parts.edges) (enumerate_from 0 plan.paths) o l in
        let s = Has-map (Mcc r.0.0) (each_or_plain (pins_on parts.edges r.0.1)) o r.2 in
        let lt : r.0.0 < length plan.paths = omega (arith, numbered_below 0 plan.paths r.0 r.1) in
        subst (IsListed plan) s.2 lt
    | inl k ↦ elim (Has-append (basic_coverage plan.paths) (elementary_conditions parts.edges plan.paths) o k) [
      | inl l ↦
          let r = Has-map Bc (range_with_len 0 (length plan.paths)) o l in
          let lt : r.0 < length plan.paths = omega (arith, (Has-range 0 (length plan.paths) r.0 r.1).1) in
          subst (IsListed plan) r.2 lt
      | inr l ↦
          let r = Has-flat_map (elementary_duties parts.edges) (enumerate_from 0 plan.paths) o l in
          let s = Has-map (Ecc r.0.0) (each_or_plain (truths_of parts.edges r.0.1.start)) o r.2 in
          let lt : r.0.0 < length plan.paths = omega (arith, numbered_below 0 plan.paths r.0 r.1) in
          subst (IsListed plan) s.2 lt
    ]
  ]

  on_condition : (o : Obligation) → Has (observable_conditions (length (conditions parts.edges))) o → IsListed plan o
  on_condition o h =
      let count = length (conditions parts.edges) in
      let r = Has-flat_map condition_duties (range_with_len 0 count) o h in
      let lt : r.0 < length plan.conditions = omega (arith, (Has-range 0 count r.0 r.1).1, ap (λ (l : List Condition). length l) is.conditional) in
      elim r.2 [
        | inl e ↦ subst (IsListed plan) e lt
        | inr k ↦ elim k [
          | inl e ↦ subst (IsListed plan) e lt
          | inr n ↦ absurd n
        ]
      ]

  -- each obligation is on one of them
  pub duty_listed : (place : ℕ) (o : Obligation) → slice_get plan.duties place ≡ Some o → IsListed plan o
  duty_listed place o at =
      let has : Has plan.duties o = has_at plan.duties place o at in
      elim (Has-append (path_duties parts.edges plan.paths) (observable_conditions (length (conditions parts.edges))) o (subst (λ (l : List Obligation). Has l o) is.asked has)) [
        | inl h ↦ on_path o h
        | inr h ↦ on_condition o h
      ]

-- an answer that is the goal of the obligation at a place
pub goal_at : (parts : Parts) (order : List EdgeId) (plan : Planned) (place k : ℕ) (o : Obligation) (result : Result Goal Memory) → slice_get plan.duties place ≡ Some o → IfOk result (IsGoalOf parts order plan o k) → IfOk result (IsGoal parts order plan place k)
goal_at parts order plan place k o (Ok it) at is = record { duty = o; listed = at; is = is }
goal_at parts order plan place k o (Err e) at is = tt
