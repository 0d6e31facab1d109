-- The places of the variables in the trail.
use Rattle.std.proofs.Common.{◌≡◌, ℕ, ◌+◌, ◌<◌, ◌≤◌, ◌≢◌, true, false, List, [], ◌∷◌, ◌++◌, take, replicate, set, get_or, length, Option, Some, None, refl, sym, ap, ◌∙◌, subst, inl, inr, arith, length-take, length-set, get_or-set_same, get_or-set_other}
use Rattle.std.proofs.lemmas.Bool.{cases_eq, cases_lt, false_from_ne_true}
use Rattle.std.proofs.lemmas.Option.{same_Some, none-some}
use Rattle.std.proofs.lemmas.List.{get_or-replicate, length-replicate, get_or_past, take-append-le, take_all, length_push}
use Rattle.cnf_form.specs.declared.lit.Lit.{Lit}
use Rattle.cnf_form.specs.Lits.{same, is_in}
use Rattle.cnf_form.proofs.LitFacts.{same_cases}
use Rattle.sat_core.specs.declared.trail.Entry.{Entry}
use Rattle.sat_core.specs.Trail.{lit_at, lits, place_of, IsPlaced}
use Rattle.sat_core.proofs.Trails.{in-whole, whole-in, lit-take, lit-push, lit-last}

-- ---- places

pub Placed-push : (vars : ℕ) (t : List Entry) (places : List (Option ℕ)) (e : Entry) → IsPlaced vars t places → e.lit.var < vars → place_of places e.lit ≡ None → IsPlaced vars (t ++ e ∷ []) (set places e.lit.var (Some (length t)))
Placed-push vars t places e p v none =
    let n = length t in let ln = length_push t e in let long = p.long in
    record {
      long = length-set places e.lit.var (Some n) ∙ p.long;
      to = λ x k h. elim (cases_eq x.var e.lit.var) [
        | inl q ↦
            let g : Some n ≡ Some k = sym (get_or-set_same places e.lit.var (Some n) None (omega arith)) ∙ (ap (λ m. get_or (set places e.lit.var (Some n)) m None) (sym q) ∙ h) in
            let nk : n ≡ k = same_Some n k g in
            (omega arith, rw (lit-last t e k (sym nk)) (sym q))
        | inr q ↦ let w = p.to x k (sym (get_or-set_other places e.lit.var x.var (Some n) None q) ∙ h) in ((let l = w.0 in omega arith), rw (lit-push t e k w.0) w.1)
      ];
      from = λ k h. elim (cases_lt k n) [
        | inl a ↦
            let f = p.from k a in
            let ne : (lit_at t k).var ≢ e.lit.var = λ q. none-some k (sym none ∙ (ap (λ m. get_or places m None) (sym q) ∙ f)) in
            rw (lit-push t e k a) (get_or-set_other places e.lit.var (lit_at t k).var (Some n) None ne ∙ f)
        | inr a ↦
            let kn : k ≡ n = omega arith in
            rw (lit-last t e k kn, kn) (get_or-set_same places e.lit.var (Some n) None (omega arith))
      ];
    }

-- no entry has a variable with no place
pub placed_new : (vars : ℕ) (t : List Entry) (places : List (Option ℕ)) (x : Lit) → IsPlaced vars t places → place_of places x ≡ None → (k : ℕ) → k < length t → (lit_at t k).var ≢ x.var
placed_new vars t places x p none k lt q = none-some k (sym none ∙ (ap (λ m. get_or places m None) (sym q) ∙ p.from k lt))

-- ---- what the places tell of a literal

-- the last entry goes, with its place
pub Placed-pop : (vars : ℕ) (t : List Entry) (places : List (Option ℕ)) (n : ℕ) → length t ≡ n + 1 → IsPlaced vars t places → IsPlaced vars (take n t) (set places (lit_at t n).var None)
Placed-pop vars t places n len p =
    let l = length-take n t in let long = p.long in let v = p.from n (omega arith) in
    let inside : (lit_at t n).var < length places = elim (cases_lt (lit_at t n).var (length places)) [ inl a ↦ a | inr a ↦ absurd (none-some n (sym (get_or_past places (lit_at t n).var None a) ∙ v)) ] in
    record {
      long = length-set places (lit_at t n).var None ∙ p.long;
      to = λ x k h. elim (cases_eq x.var (lit_at t n).var) [
        | inl q ↦ absurd (none-some k (sym (get_or-set_same places (lit_at t n).var None None inside) ∙ (ap (λ m. get_or (set places (lit_at t n).var None) m None) (sym q) ∙ h)))
        | inr q ↦
            let old : place_of places x ≡ Some k = sym (get_or-set_other places (lit_at t n).var x.var None None q) ∙ h in
            let w = p.to x k old in
            let kn : k ≢ n = λ e. q (sym w.1 ∙ ap (λ j. (lit_at t j).var) e) in
            let lt : k < n = let a = w.0 in omega arith in
            (omega arith, rw (lit-take t n k lt) w.1)
      ];
      from = λ k h.
          (let lt : k < n = omega arith in
          let f = p.from k (omega arith) in
          let ne : (lit_at t k).var ≢ (lit_at t n).var = λ q. (let e : k ≡ n = same_Some k n (sym f ∙ (ap (λ m. get_or places m None) q ∙ v)) in omega arith) in
          rw (lit-take t n k lt) (get_or-set_other places (lit_at t n).var (lit_at t k).var None None ne ∙ f));
    }

-- a literal is in the trail just where its place holds it
pub in-none : (vars : ℕ) (t : List Entry) (places : List (Option ℕ)) (x : Lit) → IsPlaced vars t places → place_of places x ≡ None → is_in x (lits t) ≡ false
in-none vars t places x p none = false_from_ne_true _ (λ h. (let w = whole-in t x h in placed_new vars t places x p none w.0 w.1 (ap (λ (y : Lit). y.var) (sym w.2))))

pub in-some : (vars : ℕ) (t : List Entry) (places : List (Option ℕ)) (x : Lit) (k : ℕ) → IsPlaced vars t places → place_of places x ≡ Some k → is_in x (lits t) ≡ same (lit_at t k) x
in-some vars t places x k p some = elim (same_cases (lit_at t k) x) [
  | inl s ↦ rw s.0 (subst (λ y. is_in y (lits t) ≡ true) s.1 (in-whole t k (p.to x k some).0))
  | inr s ↦ rw s.0 (false_from_ne_true _ (λ h. (let w = whole-in t x h in
      let pl : place_of places x ≡ Some w.0 = ap (λ (y : Lit). place_of places y) w.2 ∙ p.from w.0 w.1 in
      let e : w.0 ≡ k = same_Some w.0 k (sym pl ∙ some) in
      s.1 (sym (w.2 ∙ ap (lit_at t) e)))))
]

pub ruleset held = (in-none, in-some)

-- ---- entries are taken back

pub record Back (first t : List Entry) (places : List (Option ℕ)) (to : ℕ) : Type 0 where
  pub inside : to ≤ length t
  pub begins : take to t ≡ take to first
  pub placed : IsPlaced (length places) t places

pub Back-more : (first t new : List Entry) (places : List (Option ℕ)) (to : ℕ) (e : Entry) → t ≡ new ++ e ∷ [] → to < length t → Back first t places to → Back first new (set places e.lit.var None) to
Back-more first t new places to e is lt b =
    let l = length_push new e in
    let len : length t ≡ length new + 1 = ap length is ∙ l in
    let front : take (length new) t ≡ new = ap (take (length new)) is ∙ (take-append-le (length new) new (e ∷ []) (omega arith) ∙ take_all (length new) new (omega arith)) in
    let top : lit_at t (length new) ≡ e.lit = ap (λ (u : List Entry). lit_at u (length new)) is ∙ lit-last new e (length new) refl in
    record {
      inside = omega arith;
      begins = sym (take-append-le to new (e ∷ []) (omega arith)) ∙ (ap (take to) (sym is) ∙ b.begins);
      placed =
          let p = Placed-pop (length places) t places (length new) len b.placed in
          rw (length-set places e.lit.var None) (subst (λ (u : List Entry). IsPlaced (length places) u (set places e.lit.var None)) front
          (subst (λ (y : Lit). IsPlaced (length places) (take (length new) t) (set places y.var None)) top p));
    }

pub Back-inside : (first t new : List Entry) (places : List (Option ℕ)) (to : ℕ) (e : Entry) → t ≡ new ++ e ∷ [] → Back first t places to → e.lit.var < length places
Back-inside first t new places to e is b =
    let l = length_push new e in
    let len : length t ≡ length new + 1 = ap length is ∙ l in
    let top : lit_at t (length new) ≡ e.lit = ap (λ (u : List Entry). lit_at u (length new)) is ∙ lit-last new e (length new) refl in
    let v = b.placed.from (length new) (omega arith) in
    elim (cases_lt e.lit.var (length places)) [
      | inl a ↦ a
      | inr a ↦ absurd (none-some (length new) (sym (get_or_past places e.lit.var None a) ∙ (ap (λ (y : Lit). place_of places y) (sym top) ∙ v)))
    ]

pub Back-end : (first t : List Entry) (places : List (Option ℕ)) (to : ℕ) → length t ≤ to → Back first t places to → t ≡ take to first
Back-end first t places to le b = sym (take_all to t le) ∙ b.begins

-- ---- the start

abbrev free_places : ℕ → List (Option ℕ)
free_places vars = replicate vars None

no_place : (vars v : ℕ) → get_or (free_places vars) v None ≡ None
no_place vars v = elim (cases_lt v vars) [
  | inl lt ↦ get_or-replicate vars v None None lt
  | inr le ↦ get_or_past (free_places vars) v None (let n = places_length vars in omega arith)
]
  where
    places_length : (vars : ℕ) → length (free_places vars) ≡ vars
    places_length vars = length-replicate vars None

pub Placed-start : (vars : ℕ) (t : List Entry) (places : List (Option ℕ)) → t ≡ [] → places ≡ free_places vars → IsPlaced (length places) t places
Placed-start vars t places empty e = rw empty (record {
  long = refl;
  to = λ x k p. absurd (none-some k (sym (no_place vars x.var) ∙ (ap (λ os. get_or os x.var None) (sym e) ∙ p)));
  from = λ k lt. absurd (omega arith);
})
