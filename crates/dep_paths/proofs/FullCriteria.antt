-- Where the obligations of a criterion are covered, so are those of the criteria before it.
use Rattle.std.proofs.Common.{◌≡◌, ◌⊎◌, inl, inr, ℕ, ◌+◌, ◌<◌, ◌≤◌, Bool, true, List, [], ◌∷◌, ◌++◌, Option, Some, None, length, map, refl, ap, subst, sym, ◌∙◌, arith}
use Rattle.std.specs.List.{enumerate_from, flat_map, list_any, range_with_len}
use Rattle.std.proofs.lemmas.Bool.{cases_lt, or_cases, or_left, or_right}
use Rattle.std.proofs.lemmas.List.Elements.{All-from_recursion, recursion_from_All}
use Rattle.op_network.specs.declared.edge.Edge.{Edge}
use Rattle.dep_paths.specs.declared.path.Criterion.{Criterion}
use Rattle.dep_paths.specs.declared.path.Criterion.TheVariants as criterion
use Rattle.dep_paths.specs.declared.path.Obligation.{Obligation}
use Rattle.dep_paths.specs.declared.path.Obligation.TheVariants.{Bc, Ecc, Mcc, Omc}
use Rattle.dep_paths.specs.declared.path.Path.{Path}
use Rattle.op_network.specs.declared.edge.Parts.{Parts}
use Rattle.dep_paths.specs.Conditions.{conditions}
use Rattle.dep_paths.specs.Activation.{Frames}
use Rattle.dep_paths.specs.Coverage.{IsCoveredBy, KeptRun, Met}
use Rattle.dep_paths.specs.Criteria.{FullImplies, IsFull, criterion_of}
use Rattle.dep_paths.specs.Duties.{IsPlanOf, Planned, basic_coverage, condition_duties, duties, each_or_plain, observable_conditions, path_duties, elementary_conditions, elementary_duties, multiple_conditions, multiple_duties, pin_at, pins_at, pins_on, truths_of}
use Rattle.dep_paths.specs.Has.{Has}
use Rattle.dep_paths.proofs.Lists.{Has-append, Has-append_left, Has-append_right, Has-flat_map, Has-map, Has-range, all_has, flat_map_has, has_all, map_has}
use Rattle.dep_paths.proofs.Pinned.{activated_without}

-- wherever a is met, b is
record Implies (net : Parts) (plan : Planned) (a b : Obligation) : Type 0 where
  pub met : (frames : Frames) (t : ℕ) → Met net plan frames a t → Met net plan frames b t

-- what is met wherever a covered obligation is met is covered too
record FollowsMeeting (net : Parts) (plan : Planned) (Covered : Obligation → Type 0) : Type 0 where
  pub each : (a b : Obligation) → Implies net plan a b → Covered a → Covered b

-- ---- one for each, or a plain one

each_has : {X : Type 0} (xs : List X) (v : Option X) → Has (each_or_plain xs) v → (None ≡ v) ⊎ ((x : X) × Has xs x × (Some x ≡ v))
each_has [] v h = elim h [ inl e ↦ inl e | inr r ↦ absurd r ]
each_has (x ∷ xs) v h = elim h [
  | inl e ↦ inr (x, inl refl, e)
  | inr r ↦ let k = Has-map Some xs v r in inr (k.0, inr k.1, k.2)
]

some_has : {X : Type 0} (xs : List X) (x : X) → Has xs x → Has (each_or_plain xs) (Some x)
some_has [] x h = absurd h
some_has (y ∷ xs) x h = elim h [ inl e ↦ inl (ap Some e) | inr r ↦ inr (map_has Some xs x r) ]

some_one : {X : Type 0} (xs : List X) → (v : Option X) × Has (each_or_plain xs) v
some_one [] = (None, inl refl)
some_one (x ∷ xs) = (Some x, inl refl)

-- ---- an obligation of the next criterion that implies one

-- it is on the same path
record Stronger (net : Parts) (plan : Planned) (from : List Obligation) (c : Criterion) (o : Obligation) : Type 0 where
  pub one : Obligation
  pub has : Has from one
  pub is : criterion_of one ≡ c
  pub implies : Implies net plan one o

of_value : (net : Parts) (plan : Planned) (at : ℕ × Path) (v : Option Bool) → Has (each_or_plain (truths_of net.edges at.1.start)) v → Stronger net plan (multiple_duties net.edges at) criterion.Mcc (Ecc at.0 v)
of_value net plan at v h = elim (each_has (truths_of net.edges at.1.start) v h) [
  | inl e ↦ let any = some_one (pins_on net.edges at.1) in record {
    one = Mcc at.0 any.0;
    has = map_has (Mcc at.0) (each_or_plain (pins_on net.edges at.1)) any.0 any.1;
    is = refl;
    implies = subst (λ w. Implies net plan (Mcc at.0 any.0) (Ecc at.0 w)) e (record { met = λ frames t met. activated_without net.edges plan.paths frames at.0 any.0 t met });
  }
  | inr some ↦
      let p = pin_at 0 some.0 in
      let here : Has (pins_on net.edges at.1) p = Has-append_left (pins_at net.edges (0, at.1.start)) (flat_map (pins_at net.edges) (enumerate_from 1 (map (λ s. s.edge) at.1.steps))) p (map_has (pin_at 0) (truths_of net.edges at.1.start) some.0 some.1) in
      record {
        one = Mcc at.0 (Some p);
        has = map_has (Mcc at.0) (each_or_plain (pins_on net.edges at.1)) (Some p) (some_has (pins_on net.edges at.1) p here);
        is = refl;
        implies = subst (λ w. Implies net plan (Mcc at.0 (Some p)) (Ecc at.0 w)) some.2 (record { met = λ frames t met. met });
      }
]

of_elementary : (net : Parts) (plan : Planned) (at : ℕ × Path) (o : Obligation) → Has (elementary_duties net.edges at) o → Stronger net plan (multiple_duties net.edges at) criterion.Mcc o
of_elementary net plan at o h =
    let k = Has-map (Ecc at.0) (each_or_plain (truths_of net.edges at.1.start)) o h in
    subst (Stronger net plan (multiple_duties net.edges at) criterion.Mcc) k.2 (of_value net plan at k.0 k.1)

of_basic : (net : Parts) (plan : Planned) (at : ℕ × Path) → Stronger net plan (elementary_duties net.edges at) criterion.Ecc (Bc at.0)
of_basic net plan at =
    let any = some_one (truths_of net.edges at.1.start) in
    elim (each_has (truths_of net.edges at.1.start) any.0 any.1) [
      | inl e ↦ record {
        one = Ecc at.0 any.0;
        has = map_has (Ecc at.0) (each_or_plain (truths_of net.edges at.1.start)) any.0 any.1;
        is = refl;
        implies = subst (λ w. Implies net plan (Ecc at.0 w) (Bc at.0)) e (record { met = λ frames t met. met });
      }
      | inr some ↦ record {
        one = Ecc at.0 any.0;
        has = map_has (Ecc at.0) (each_or_plain (truths_of net.edges at.1.start)) any.0 any.1;
        is = refl;
        implies = subst (λ w. Implies net plan (Ecc at.0 w) (Bc at.0)) some.2 (record { met = λ frames t met. activated_without net.edges plan.paths frames at.0 (Some (pin_at 0 some.0)) t met });
      }
    ]

-- ---- over all paths

here : (n i : ℕ) → n ≤ i → (n ≡ i) ⊎ (n + 1 ≤ i)
here n i h = elim (cases_lt n i) [ inl lt ↦ inr (omega arith) | inr ge ↦ inl (omega arith) ]

numbered_has : {X : Type 0} (n : ℕ) (xs : List X) (i : ℕ) → n ≤ i → i < n + length xs → (x : X) × Has (enumerate_from n xs) (i, x)
numbered_has n [] i low high = absurd (omega arith)
numbered_has n (x ∷ xs) i low high = elim (here n i low) [
  | inl e ↦ (x, inl (ap (λ k. (k, x)) e))
  | inr above ↦ let k = numbered_has (n + 1) xs i above (omega arith) in (k.0, inr k.1)
]

-- the obligations of one criterion are those from one of the parts
no_other : (count : ℕ) (o : Obligation) (c : Criterion) → (criterion.Omcdc ≡ c → ⊥) → Has (observable_conditions count) o → criterion_of o ≡ c → ⊥
no_other count o c other h is =
    let k = Has-flat_map condition_duties (range_with_len 0 count) o h in
    of_condition k.0 k.2
  where
    of_condition : (place : ℕ) → Has (condition_duties place) o → ⊥
    of_condition place (inl e) = other (ap criterion_of e ∙ is)
    of_condition place (inr (inl e)) = other (ap criterion_of e ∙ is)
    of_condition place (inr (inr none)) = none

on_paths : (edges : List Edge) (paths : List Path) (o : Obligation) (c : Criterion) → (criterion.Omcdc ≡ c → ⊥) → Has (duties edges paths) o → criterion_of o ≡ c → Has (path_duties edges paths) o
on_paths edges paths o c other h is = elim (Has-append (path_duties edges paths) (observable_conditions (length (conditions edges))) o h) [
  | inl l ↦ l
  | inr r ↦ absurd (no_other (length (conditions edges)) o c other r is)
]

from_elementary : (edges : List Edge) (paths : List Path) (o : Obligation) → Has (duties edges paths) o → criterion_of o ≡ criterion.Ecc → Has (elementary_conditions edges paths) o
from_elementary edges paths o h is = elim (Has-append (basic_coverage paths ++ elementary_conditions edges paths) (multiple_conditions edges paths) o (on_paths edges paths o criterion.Ecc (λ e. absurd (cc e)) h is)) [
  | inl l ↦ elim (Has-append (basic_coverage paths) (elementary_conditions edges paths) o l) [
    | inl b ↦ let k = Has-map Bc (range_with_len 0 (length paths)) o b in absurd (cc (ap criterion_of k.2))
    | inr e ↦ e
  ]
  | inr m ↦
      let k = Has-flat_map (multiple_duties edges) (enumerate_from 0 paths) o m in
      let j = Has-map (Mcc k.0.0) (each_or_plain (pins_on edges k.0.1)) o k.2 in
      absurd (cc (ap criterion_of j.2))
]

from_basic : (edges : List Edge) (paths : List Path) (o : Obligation) → Has (duties edges paths) o → criterion_of o ≡ criterion.Bc → Has (basic_coverage paths) o
from_basic edges paths o h is = elim (Has-append (basic_coverage paths ++ elementary_conditions edges paths) (multiple_conditions edges paths) o (on_paths edges paths o criterion.Bc (λ e. absurd (cc e)) h is)) [
  | inl l ↦ elim (Has-append (basic_coverage paths) (elementary_conditions edges paths) o l) [
    | inl b ↦ b
    | inr e ↦
        let k = Has-flat_map (elementary_duties edges) (enumerate_from 0 paths) o e in
        let j = Has-map (Ecc k.0.0) (each_or_plain (truths_of edges k.0.1.start)) o k.2 in
        absurd (cc (ap criterion_of j.2))
  ]
  | inr m ↦
      let k = Has-flat_map (multiple_duties edges) (enumerate_from 0 paths) o m in
      let j = Has-map (Mcc k.0.0) (each_or_plain (pins_on edges k.0.1)) o k.2 in
      absurd (cc (ap criterion_of j.2))
]

-- what a full criterion says of one obligation, and the other way round
full_at : (Covered : Obligation → Type 0) (c : Criterion) (os : List Obligation) (o : Obligation) → IsFull Covered c os → Has os o → criterion_of o ≡ c → Covered o
full_at Covered c os o full h is =
    let P = λ (o : Obligation). criterion_of o ≡ c → Covered o in
    has_all P os o (recursion_from_All P os full) h is

full_from : (Covered : Obligation → Type 0) (c : Criterion) (os : List Obligation) → ((o : Obligation) → Has os o → criterion_of o ≡ c → Covered o) → IsFull Covered c os
full_from Covered c os each =
    let P = λ (o : Obligation). criterion_of o ≡ c → Covered o in
    All-from_recursion P os (all_has P os each)

-- a part of the obligations on paths is one of all
is_asked : (net : Parts) (paths : List Path) (o : Obligation) → Has (path_duties net.edges paths) o → Has (duties net.edges paths) o
is_asked net paths o h = Has-append_left (path_duties net.edges paths) (observable_conditions (length (conditions net.edges))) o h

elementary_follow : (net : Parts) (plan : Planned) (Covered : Obligation → Type 0) → FollowsMeeting net plan Covered → IsFull Covered criterion.Mcc (duties net.edges plan.paths) → IsFull Covered criterion.Ecc (duties net.edges plan.paths)
elementary_follow net plan Covered follows full =
    let edges = net.edges in
    let paths = plan.paths in
    full_from Covered criterion.Ecc (duties edges paths) (λ o h is.
    let k = Has-flat_map (elementary_duties edges) (enumerate_from 0 paths) o (from_elementary edges paths o h is) in
    let m = of_elementary net plan k.0 o k.2 in
    follows.each m.one o m.implies
    (full_at Covered criterion.Mcc (duties edges paths) m.one full
    (is_asked net paths m.one
    (Has-append_right (basic_coverage paths ++ elementary_conditions edges paths) (multiple_conditions edges paths) m.one
    (flat_map_has (multiple_duties edges) (enumerate_from 0 paths) k.0 m.one k.1 m.has)))
    m.is))

basic_follow : (net : Parts) (plan : Planned) (Covered : Obligation → Type 0) → FollowsMeeting net plan Covered → IsFull Covered criterion.Ecc (duties net.edges plan.paths) → IsFull Covered criterion.Bc (duties net.edges plan.paths)
basic_follow net plan Covered follows full =
    let edges = net.edges in
    let paths = plan.paths in
    full_from Covered criterion.Bc (duties edges paths) (λ o h is.
    let b = Has-map Bc (range_with_len 0 (length paths)) o (from_basic edges paths o h is) in
    let low = Has-range 0 (length paths) b.0 b.1 in
    let p = numbered_has 0 paths b.0 low.0 low.1 in
    let m = of_basic net plan (b.0, p.0) in
    subst Covered b.2
    (follows.each m.one (Bc b.0) m.implies
    (full_at Covered criterion.Ecc (duties edges paths) m.one full
    (is_asked net paths m.one
    (Has-append_left (basic_coverage paths ++ elementary_conditions edges paths) (multiple_conditions edges paths) m.one
    (Has-append_right (basic_coverage paths) (elementary_conditions edges paths) m.one
    (flat_map_has (elementary_duties edges) (enumerate_from 0 paths) (b.0, p.0) m.one p.1 m.has))))
    m.is)))

-- ---- what runs cover

covered_follows : (net : Parts) (plan : Planned) (runs : List KeptRun) → FollowsMeeting net plan (IsCoveredBy net plan runs)
covered_follows net plan runs = record {
  each = λ a b implies h. record {
    run = h.run;
    listed = h.listed;
    covers = record { instant = h.covers.instant; counts = h.covers.counts; met = implies.met h.run.frames h.covers.instant h.covers.met };
  };
}

pub full_elementary : FullImplies criterion.Mcc criterion.Ecc
full_elementary net plan runs of full =
    let Covered = IsCoveredBy net plan runs in
    subst (IsFull Covered criterion.Ecc) (sym of.asked) (elementary_follow net plan Covered (covered_follows net plan runs) (subst (IsFull Covered criterion.Mcc) of.asked full))

pub full_basic : FullImplies criterion.Ecc criterion.Bc
full_basic net plan runs of full =
    let Covered = IsCoveredBy net plan runs in
    subst (IsFull Covered criterion.Bc) (sym of.asked) (basic_follow net plan Covered (covered_follows net plan runs) (subst (IsFull Covered criterion.Ecc) of.asked full))
