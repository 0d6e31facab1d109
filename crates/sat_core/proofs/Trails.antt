-- The trail under a push, a cut and a new clause.
use Rattle.std.proofs.Common.{◌≡◌, ℕ, zero, suc, ◌<◌, ◌≤◌, ◌≢◌, true, List, [], ◌∷◌, ◌++◌, take, get_or, length, Some, None, refl, sym, ap, ◌∙◌, subst, ◌⊎◌, inl, inr, arith, length-append, length-take, get_or-take}
use Rattle.std.proofs.lemmas.Bool.{cases_lt, false≢true}
use Rattle.std.proofs.lemmas.List.{get_or_append_left, get_or_push, take-append-le, take-take, take_all, length_push}
use Rattle.cnf_form.specs.declared.lit.Lit.{Lit}
use Rattle.cnf_form.specs.Lits.{turned, is_in}
use Rattle.cnf_form.proofs.LitFacts.{is_in_cases, is_in-head, is_in-tail}
use Rattle.sat_core.specs.declared.trail.Entry.{Entry}
use Rattle.cnf_form.specs.Marks.{marks_of}
use Rattle.proof_check.specs.Spent.{IsIdle}
use Rattle.sat_core.specs.Trail.{no_entry, lit_at, reason_at, lits, clause, AreIdle, IsReason, IsTrail}
use Rattle.sat_core.proofs.Opens.{idle_push}

-- ---- what stands before a place

pub before-in : (t : List Entry) (p k : ℕ) → k < p → k < length t → is_in (lit_at t k) (lits (take p t)) ≡ true
before-in [] p k a b = absurd (omega arith)
before-in (e ∷ es) zero k a b = absurd (omega arith)
before-in (e ∷ es) (suc p) zero a b = is_in-head e.lit e.lit (lits (take p es)) refl
before-in (e ∷ es) (suc p) (suc k) a b = is_in-tail (lit_at es k) e.lit (lits (take p es)) (before-in es p k (omega arith) (omega arith))

pub in-before : (t : List Entry) (p : ℕ) (x : Lit) → is_in x (lits (take p t)) ≡ true → (k : ℕ) × (k < p) × (k < length t) × (x ≡ lit_at t k)
in-before t zero x h = absurd (false≢true h)
in-before [] (suc p) x h = absurd (false≢true h)
in-before (e ∷ es) (suc p) x h = elim (is_in_cases x e.lit (lits (take p es)) h) [
  | inl q ↦ (0, omega arith, omega arith, q)
  | inr q ↦ let w = in-before es p x q in (suc w.0, (let l = w.1 in omega arith), (let l = w.2 in omega arith), w.3)
]

-- ---- what stands in the whole trail

pub in-whole : (t : List Entry) (k : ℕ) → k < length t → is_in (lit_at t k) (lits t) ≡ true
in-whole t k lt = subst (λ u. is_in (lit_at t k) (lits u) ≡ true) (take_all (length t) t (omega arith)) (before-in t (length t) k lt lt)

pub whole-in : (t : List Entry) (x : Lit) → is_in x (lits t) ≡ true → (k : ℕ) × (k < length t) × (x ≡ lit_at t k)
whole-in t x h = let w = in-before t (length t) x (subst (λ u. is_in x (lits u) ≡ true) (sym (take_all (length t) t (omega arith))) h) in (w.0, w.2, w.3)

-- ---- entries by place

pub lit-take : (t : List Entry) (q k : ℕ) → k < q → lit_at (take q t) k ≡ lit_at t k
lit-take t q k lt = ap (λ (e : Entry). e.lit) (get_or-take q t k no_entry lt)

pub reason-take : (t : List Entry) (q k : ℕ) → k < q → reason_at (take q t) k ≡ reason_at t k
reason-take t q k lt = ap (λ (e : Entry). e.reason) (get_or-take q t k no_entry lt)

pub lit-push : (t : List Entry) (e : Entry) (k : ℕ) → k < length t → lit_at (t ++ e ∷ []) k ≡ lit_at t k
lit-push t e k lt = ap (λ (d : Entry). d.lit) (get_or_append_left t (e ∷ []) no_entry k lt)

pub last-push : (t : List Entry) (e : Entry) → get_or (t ++ e ∷ []) (length t) no_entry ≡ e
last-push t e = get_or_push t e no_entry (length t) refl

pub lit-last : (t : List Entry) (e : Entry) (i : ℕ) → i ≡ length t → lit_at (t ++ e ∷ []) i ≡ e.lit
lit-last t e i a = ap (λ (d : Entry). d.lit) (ap (λ n. get_or (t ++ e ∷ []) n no_entry) a ∙ last-push t e)

IsReason-like : (cs : List (List Lit)) (lit other : ℕ → Lit) (i : ℕ) (l : Lit) (r : ℕ) → ((k : ℕ) → k < i → lit k ≡ other k) → IsReason cs lit i l r → IsReason cs other i l r
IsReason-like cs lit other i l r h s = record {
  inside = s.inside;
  there = s.there;
  others = λ x j n. (let w = s.others x j n in (w.0, w.1, w.2 ∙ ap turned (h w.0 w.1)));
}

clause-push : (cs : List (List Lit)) (c : List Lit) (r : ℕ) → r < length cs → clause (cs ++ c ∷ []) r ≡ clause cs r
clause-push cs c r lt = get_or_append_left cs (c ∷ []) [] r lt

IsReason-more : (cs : List (List Lit)) (c : List Lit) (lit : ℕ → Lit) (i : ℕ) (l : Lit) (r : ℕ) → IsReason cs lit i l r → IsReason (cs ++ c ∷ []) lit i l r
IsReason-more cs c lit i l r s =
    let e = clause-push cs c r s.inside in
    record {
      inside = (let a = s.inside in simp length-append (omega arith));
      there = rw e s.there;
      others = λ x j n. s.others x (rw e at j) n;
    }

-- ---- the trail

pub Trail-cut : (vars : ℕ) (cs : List (List Lit)) (t : List Entry) (q : ℕ) → IsTrail vars cs t → IsTrail vars cs (take q t)
Trail-cut vars cs t q s =
    let len : (k : ℕ) → k < length (take q t) → (k < q) × (k < length t) = λ k h. (let e = length-take q t in (omega arith, omega arith)) in
    record {
      within = λ k h. (let w = len k h in rw (lit-take t q k w.0) (s.within k w.1));
      apart = λ i k h l. (let w = len i h in rw (lit-take t q i w.0, lit-take t q k (let a = w.0 in omega arith)) (s.apart i k w.1 l));
      reasons = λ i r h e. (let w = len i h in
          rw (lit-take t q i w.0) (IsReason-like cs (lit_at t) (lit_at (take q t)) i (lit_at t i) r (λ k lk. sym (lit-take t q k (let a = w.0 in omega arith))) (s.reasons i r w.1 (sym (reason-take t q i w.0) ∙ e))));
      complete = λ i h e. (let w = len i h in let le : i ≤ q = let a = w.0 in omega arith in
          rw (take-take i q t le) (s.complete i w.1 (sym (reason-take t q i w.0) ∙ e)));
    }

pub Trail-more : (vars : ℕ) (cs : List (List Lit)) (t : List Entry) (c : List Lit) → IsTrail vars cs t → ((i : ℕ) → i < length t → reason_at t i ≡ None → IsIdle (marks_of (lits (take i t))) c) → IsTrail vars (cs ++ c ∷ []) t
Trail-more vars cs t c s h = record {
  within = s.within;
  apart = s.apart;
  reasons = λ i r lt e. IsReason-more cs c (lit_at t) i (lit_at t i) r (s.reasons i r lt e);
  complete = λ i lt e. idle_push (lits (take i t)) cs c (s.complete i lt e) (h i lt e);
}

pub Trail-push : (vars : ℕ) (cs : List (List Lit)) (t : List Entry) (e : Entry) → IsTrail vars cs t → e.lit.var < vars → ((k : ℕ) → k < length t → (lit_at t k).var ≢ e.lit.var)
    → ((r : ℕ) → e.reason ≡ Some r → IsReason cs (lit_at t) (length t) e.lit r) → (e.reason ≡ None → AreIdle (lits t) cs) → IsTrail vars cs (t ++ e ∷ [])
Trail-push vars cs t e s v new why done =
    let last = last-push t e in
    let len : (k : ℕ) → k < length (t ++ e ∷ []) → (k < length t) ⊎ (k ≡ length t) = λ k h. (let l = length_push t e in elim (cases_lt k (length t)) [ inl a ↦ inl a | inr a ↦ inr (omega arith) ]) in
    record {
      within = λ k h. elim (len k h) [
        | inl a ↦ rw (lit-push t e k a) (s.within k a)
        | inr a ↦ rw (lit-last t e k a) v
      ];
      apart = λ i k h l. elim (len i h) [
        | inl a ↦ rw (lit-push t e i a, lit-push t e k (omega arith)) (s.apart i k a l)
        | inr a ↦ rw (lit-push t e k (omega arith), lit-last t e i a) (new k (omega arith))
      ];
      reasons = λ i r h q. elim (len i h) [
        | inl a ↦ rw (lit-push t e i a) (IsReason-like cs (lit_at t) (lit_at (t ++ e ∷ [])) i (lit_at t i) r (λ k lk. sym (lit-push t e k (omega arith))) (s.reasons i r a (sym (ap (λ (d : Entry). d.reason) (get_or_append_left t (e ∷ []) no_entry i a)) ∙ q)))
        | inr a ↦ subst (λ (j : ℕ). IsReason cs (lit_at (t ++ e ∷ [])) j (lit_at (t ++ e ∷ []) j) r) (sym a) (rw (lit-last t e (length t) refl) (IsReason-like cs (lit_at t) (lit_at (t ++ e ∷ [])) (length t) e.lit r (λ k lk. sym (lit-push t e k lk)) (why r (sym (ap (λ (d : Entry). d.reason) (ap (λ n. get_or (t ++ e ∷ []) n no_entry) a ∙ last)) ∙ q))))
      ];
      complete = λ i h q. elim (len i h) [
        | inl a ↦ rw (take-append-le i t (e ∷ []) (omega arith)) (s.complete i a (sym (ap (λ (d : Entry). d.reason) (get_or_append_left t (e ∷ []) no_entry i a)) ∙ q))
        | inr a ↦ rw (take-append-le i t (e ∷ []) (omega arith), a, take_all (length t) t (omega arith)) (done (sym (ap (λ (d : Entry). d.reason) (ap (λ n. get_or (t ++ e ∷ []) n no_entry) a ∙ last)) ∙ q))
      ];
    }
