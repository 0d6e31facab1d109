-- The walk back along the trail: the resolvent with its hints is accepted.
use Rattle.std.proofs.Common.{◌≡◌, ℕ, ◌+◌, ◌<◌, ℤ, pos, Bool, true, false, List, [], ◌∷◌, Some, refl, sym, ap, ◌∙◌, subst, inl, inr, arith, true≢false}
use Rattle.std.proofs.lemmas.Bool.{or_cases, or_left, or_right, false_from_ne_true, cases_eq}
use Rattle.cnf_form.specs.declared.lit.Lit.{Lit}
use Rattle.cnf_form.specs.Lits.{same, turned, is_in, no_twice}
use Rattle.cnf_form.proofs.LitFacts.{same-true, same-refl, turned_var}
use Rattle.cnf_form.specs.Lines.{is_nil}
use Rattle.cnf_form.specs.Marks.{with_mark, marks_of}
use Rattle.proof_check.specs.Check.{Clauses, open_lits}
use Rattle.sat_core.specs.Trail.{Apart}
use Rattle.proof_check.specs.Spent.{stands_in}
use Rattle.sat_core.specs.Conflicts.{IsGood, Leads}
use Rattle.sat_core.proofs.Opens.{closed_by, one_by}

-- ---- the walk

-- each literal of a clause but that at i is false by a marked place before i
abbrev pub IsMarked : (ℕ → Lit) → (ℕ → Bool) → ℕ → List Lit → Type 0
IsMarked lit seen i c = (x : Lit) → is_in x c ≡ true → (k : ℕ) × (k < i) × (x ≡ turned (lit k)) × (seen k ≡ true)

abbrev pub IsMarkedBut : (ℕ → Lit) → (ℕ → Bool) → ℕ → Lit → List Lit → Type 0
IsMarkedBut lit seen i l c = (x : Lit) → is_in x c ≡ true → same x l ≡ false → (k : ℕ) × (k < i) × (x ≡ turned (lit k)) × (seen k ≡ true)

module _ (present : Clauses) (lit : ℕ → Lit) where
  pub Leads-start : (seen : ℕ → Bool) (n id : ℕ) (c : List Lit) → present id ≡ Some c → IsMarked lit seen n c → Leads present lit seen n (pos id ∷ [])
  Leads-start seen n id c e m falses cov from =
      let none : open_lits falses c ≡ [] = closed_by falses c (λ x i. let k = m x i in subst (λ y. falses y ≡ true) (sym k.2) (cov k.0 k.1 k.3)) in
      record { accepted = rw (e, none) refl; linked = refl }

  pub Leads-skip : (seen : ℕ → Bool) (i : ℕ) (hs : List ℤ) → seen i ≡ false → Leads present lit seen (i + 1) hs → Leads present lit seen i hs
  Leads-skip seen i hs e a falses cov from =
      a falses
      (λ k lt s. elim (cases_eq k i) [ inl q ↦ absurd (true≢false (sym s ∙ (ap seen q ∙ e))) | inr q ↦ cov k (omega arith) s ])
      (λ x f. let w = from x f in (w.0, (let lt = w.1 in omega arith), w.2))

  -- the literal at i, with its reason
  pub Leads-more : (seen more : ℕ → Bool) (i n id : ℕ) (c : List Lit) (hs : List ℤ) → i < n → Apart lit n → present id ≡ Some c → no_twice c ≡ true → is_in (lit i) c ≡ true → IsMarkedBut lit more i (lit i) c
      → ((k : ℕ) → k < i → seen k ≡ true → more k ≡ true) → is_nil hs ≡ false → stands_in present hs (turned (lit i)) ≡ true
      → Leads present lit seen (i + 1) hs → Leads present lit more i (pos id ∷ hs)
  Leads-more seen more i n id c hs lt apart e once there m sub some st a falses cov from =
      let far : (x : Lit) → x.var ≡ (lit i).var → falses x ≡ true → ⊥ = λ x v f. (let w = from x f in apart i w.0 lt w.1 (sym (turned_var (lit w.0)) ∙ (sym (ap (λ (y : Lit). y.var) w.2) ∙ v))) in
      let f1 : falses (lit i) ≡ false = false_from_ne_true _ (far (lit i) refl) in
      let f2 : falses (turned (lit i)) ≡ false = false_from_ne_true _ (far (turned (lit i)) (turned_var (lit i))) in
      let lo : open_lits falses c ≡ lit i ∷ [] = one_by falses c (lit i) once there f1 (λ x j s. let k = m x j s in subst (λ y. falses y ≡ true) (sym k.2) (cov k.0 k.1 k.3)) in
      let next = a (with_mark (turned (lit i)) falses)
      (λ k l s. elim (cases_eq k i) [
        | inl q ↦ or_left _ _ (subst (λ j. same (turned (lit i)) (turned (lit j)) ≡ true) (sym q) (same-refl (turned (lit i))))
        | inr q ↦ or_right (same (turned (lit i)) (turned (lit k))) _ (cov k (omega arith) (sub k (omega arith) s))
      ])
      (λ x f. elim (or_cases (same (turned (lit i)) x) (falses x) f) [
        | inl s ↦ (i, omega arith, sym (same-true (turned (lit i)) x s))
        | inr s ↦ let w = from x s in (w.0, (let l = w.1 in omega arith), w.2)
      ]) in
      record { accepted = rw (e, some, lo, f2) next.accepted; linked = rw (e, some, lo, f2, st) next.linked }

  -- the resolvent at the end
  pub Leads-end : (seen : ℕ → Bool) (i : ℕ) (c : List Lit) (hs : List ℤ) → ((k : ℕ) → k < i → seen k ≡ true → is_in (turned (lit k)) c ≡ true) → ((x : Lit) → is_in x c ≡ true → (k : ℕ) × (k < i) × (x ≡ turned (lit k)))
      → Leads present lit seen i hs → IsGood present (marks_of c) hs
  Leads-end seen i c hs cov from a = a (marks_of c) cov from
