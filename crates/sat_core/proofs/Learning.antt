-- The learnt clause: it is new to propagation, and the trail that it leads to is one again.
use Rattle.std.proofs.Common.{◌≡◌, ℕ, zero, suc, ◌+◌, ◌-◌, ◌<◌, ◌≤◌, ℤ, Bool, true, false, not, cond, ◌&&◌, List, [], ◌∷◌, ◌++◌, take, get_or, length, map, Option, Some, None, refl, sym, ap, ◌∙◌, subst, ◌⊎◌, inl, inr, arith, true≢false, length-append, length-take}
use Rattle.std.proofs.lemmas.Bool.{or_cases, cases_eq, cases_lt, false≢true, or_left, or_right, and_from, false_from_ne_true, lt-ltb}
use Rattle.cnf_form.specs.declared.lit.Lit.{Lit}
use Rattle.cnf_form.specs.Lits.{same, turned, is_in, below}
use Rattle.cnf_form.proofs.LitFacts.{turned_ne, same-true, same-refl, turned_var, turned-turned, is_in-head, is_in-tail}
use Rattle.std.specs.List.{list_all}
use Rattle.cnf_form.specs.Marks.{marks_of}
use Rattle.cnf_form.proofs.MarkFacts.{no_twice_push}
use Rattle.proof_check.specs.Check.{Clauses, numbered}
use Rattle.sat_core.specs.declared.trail.Entry.{Entry}
use Rattle.proof_check.specs.Spent.{stands_in, IsNew, IsResolvent}
use Rattle.sat_core.specs.Conflicts.{HasWalked, IsGood, IsPart}
use Rattle.sat_core.specs.Marks.{at}
use Rattle.sat_core.specs.Trail.{lit_at, reason_at, lits, Apart, IsTrail}
use Rattle.sat_core.proofs.Leading.{Leads-end}
use Rattle.sat_core.proofs.Opens.{in_push}
use Rattle.sat_core.proofs.Trails.{before-in, in-before}

-- a literal of the trail has no negation there
consistent-before : (t : List Entry) (p : ℕ) → Apart (lit_at t) (length t) → (x : Lit) → is_in x (lits (take p t)) ≡ true → is_in (turned x) (lits (take p t)) ≡ false
consistent-before t p apart x h = false_from_ne_true _ (λ g.
    (let v = in-before t p x h in
    let w = in-before t p (turned x) g in
    let vl = v.2 in let wl = w.2 in
    let one_var : (lit_at t w.0).var ≡ (lit_at t v.0).var = ap (λ (y : Lit). y.var) (sym w.3) ∙ (turned_var x ∙ ap (λ (y : Lit). y.var) v.3) in
    elim (cases_lt v.0 w.0) [
      | inl l ↦ apart w.0 v.0 wl l (sym one_var)
      | inr l ↦ elim (cases_eq w.0 v.0) [
        | inr ne ↦ apart v.0 w.0 vl (omega arith) one_var
        | inl e ↦ turned_ne x (w.3 ∙ (ap (lit_at t) e ∙ sym v.3))
      ]
    ]))

-- ---- the learnt clause

pub Part-none : (t : List Entry) (seen : List Bool) → IsPart t 0 seen []
Part-none t seen = record { from = λ x i. absurd (false≢true i); all = λ k l. absurd (omega arith); once = refl }

pub Part-skip : (t : List Entry) (n : ℕ) (seen : List Bool) (c : List Lit) → at seen n ≡ false → IsPart t n seen c → IsPart t (n + 1) seen c
Part-skip t n seen c e p = record {
  from = λ x i. (let w = p.from x i in (w.0, (let l = w.1 in omega arith), w.2, w.3));
  all = λ k l h. elim (cases_eq k n) [ inl q ↦ absurd (true≢false (sym h ∙ (ap (at seen) q ∙ e))) | inr q ↦ p.all k (omega arith) h ];
  once = p.once;
}

pub Part-more : (t : List Entry) (n : ℕ) (seen : List Bool) (c : List Lit) (x : Lit) → Apart (lit_at t) (length t) → n < length t → at seen n ≡ true → x ≡ turned (lit_at t n) → IsPart t n seen c → IsPart t (n + 1) seen (c ++ x ∷ [])
Part-more t n seen c x a lt h e p = record {
  from = λ y i. elim (or_cases (same x y) (is_in y c) (sym (in_push y x c) ∙ i)) [
    | inl s ↦ (n, omega arith, sym (same-true x y s) ∙ e, h)
    | inr s ↦ let w = p.from y s in (w.0, (let l = w.1 in omega arith), w.2, w.3)
  ];
  all = λ k l g. in_push (turned (lit_at t k)) x c ∙ elim (cases_eq k n) [
    | inl q ↦ or_left _ _ (subst (λ y. same x y ≡ true) (e ∙ ap (λ j. turned (lit_at t j)) (sym q)) (same-refl x))
    | inr q ↦ or_right (same x (turned (lit_at t k))) _ (p.all k (omega arith) g)
  ];
  once = no_twice_push c x p.once (false_from_ne_true _ (λ i. (let w = p.from x i in a n w.0 lt w.1 (sym (turned_var (lit_at t w.0)) ∙ (ap (λ (y : Lit). y.var) (sym w.2 ∙ e) ∙ turned_var (lit_at t n))))));
}

all-stand : (present : Clauses) (c : List Lit) (hs : List ℤ) → ((x : Lit) → is_in x c ≡ true → stands_in present hs x ≡ true) → list_all (stands_in present hs) c ≡ true
all-stand present [] hs h = refl
all-stand present (l ∷ ls) hs h = and_from (stands_in present hs l) _ (h l (is_in-head l l ls refl)) (all-stand present ls hs (λ x i. h x (is_in-tail x l ls i)))

all-below : (n : ℕ) (c : List Lit) → ((x : Lit) → is_in x c ≡ true → x.var < n) → below n c ≡ true
all-below n [] h = refl
all-below n (l ∷ ls) h = and_from (Rattle.std.proofs.Common.ltb l.var n) _ (lt-ltb l.var n (h l (is_in-head l l ls refl))) (all-below n ls (λ x i. h x (is_in-tail x l ls i)))

module _ (vars : ℕ) (cs : List (List Lit)) (t : List Entry) (from stop : ℕ) (seen : List Bool) (hs : List ℤ) (c : List Lit) (trail : IsTrail vars cs t) (walked : HasWalked cs t from stop seen hs) (learnt : IsPart t (stop + 1) seen c) where
  pub learnt-good : IsGood (numbered cs) (marks_of c) hs
  learnt-good = Leads-end (numbered cs) (lit_at t) (at seen) (stop + 1) c hs learnt.all (λ x i. let w = learnt.from x i in (w.0, w.1, w.2)) walked.leads

  pub learnt-resolvent : IsResolvent vars (numbered cs) c hs
  learnt-resolvent = record {
    inside = all-below vars c (λ x i. let w = learnt.from x i in let v = trail.within w.0 (let l = w.1 in let h = walked.high in omega arith) in subst (λ n. n < vars) (sym (ap (λ (y : Lit). y.var) w.2 ∙ turned_var (lit_at t w.0))) v);
    stand = all-stand (numbered cs) c hs (λ x i. let w = learnt.from x i in subst (λ y. stands_in (numbered cs) hs y ≡ true) (sym w.2) (walked.stand w.0 w.3));
    linked = learnt-good.linked;
  }

  -- the others are false before `from`
  others : (x : Lit) → is_in x c ≡ true → same x (turned (lit_at t stop)) ≡ false → (k : ℕ) × (k < from) × (x ≡ turned (lit_at t k)) × (at seen k ≡ true)
  others x i s =
      let w = learnt.from x i in
      elim (cases_eq w.0 stop) [
        | inl q ↦ absurd (true≢false (sym (same-refl (turned (lit_at t stop))) ∙ (ap (λ y. same y (turned (lit_at t stop))) (sym (w.2 ∙ ap (λ k. turned (lit_at t k)) q)) ∙ s)))
        | inr q ↦ elim (cases_lt w.0 from) [
          | inl l ↦ (w.0, l, w.2, w.3)
          | inr l ↦ absurd (true≢false (sym w.3 ∙ walked.alone w.0 l q))
        ]
      ]

  far : (p : ℕ) (x : Lit) → p ≤ stop → x.var ≡ (lit_at t stop).var → is_in x (lits (take p t)) ≡ false
  far p x le v = false_from_ne_true _ (λ h. (let w = in-before t p x h in trail.apart stop w.0 walked.high (let l = w.1 in omega arith) (sym (ap (λ (y : Lit). y.var) w.3) ∙ v)))

  pub learnt-new : from < length t → reason_at t from ≡ None → IsNew cs c
  learnt-new lt none = record {
    lit = turned (lit_at t stop);
    set = marks_of (lits (take from t));
    member = learnt.all stop (omega arith) walked.here;
    consistent = consistent-before t from trail.apart;
    others = λ x i s. (let w = others x i s in subst (λ y. is_in y (lits (take from t)) ≡ true) (sym (ap turned w.2 ∙ turned-turned (lit_at t w.0))) (before-in t from w.0 w.1 (let l = w.1 in omega arith)));
    not_true = far from (turned (lit_at t stop)) walked.low (turned_var (lit_at t stop));
    not_false = far from (turned (turned (lit_at t stop))) walked.low (turned_var (turned (lit_at t stop)) ∙ turned_var (lit_at t stop));
    idle = trail.complete from lt none;
  }
