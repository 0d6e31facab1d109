-- What a pass finds, in the words of the trail.
use Rattle.std.proofs.Common.{◌≡◌, ℕ, ◌<◌, true, false, List, [], ◌∷◌, take, get_or, length, Option, None, sym, ap, ◌∙◌, subst, inl, inr, arith, true≢false}
use Rattle.std.proofs.lemmas.Bool.{cases_eq, cases_lt}
use Rattle.std.proofs.lemmas.List.{take_all}
use Rattle.cnf_form.specs.declared.lit.Lit.{Lit}
use Rattle.cnf_form.specs.Lits.{same, turned, is_in}
use Rattle.cnf_form.proofs.LitFacts.{same-refl, turned_var, turned-turned, turned_ne, of_one_var}
use Rattle.proof_check.specs.Check.{open_lits}
use Rattle.sat_core.specs.declared.trail.Entry.{Entry}
use Rattle.sat_core.specs.Conflicts.{IsConflict}
use Rattle.sat_core.specs.Trail.{lit_at, reason_at, lits, clause, place_of, is_false, IsClosed, IsFalseBy, IsReason, IsTrail, IsPlaced}
use Rattle.sat_core.proofs.Opens.{any_some, many_some, closed_all, one_in, one_others, idle_at}
use Rattle.sat_core.proofs.Placing.{in-some}
use Rattle.sat_core.proofs.Trails.{before-in, in-before}
use Rattle.sat_core.proofs.Turning.{option_cases}

pub false-by : (t : List Entry) (x : Lit) → is_false (lits t) x ≡ true → IsFalseBy (lit_at t) (length t) x
false-by t x h =
    let w = in-before t (length t) (turned x) (subst (λ u. is_in (turned x) (lits u) ≡ true) (sym (take_all (length t) t (omega arith))) h) in
    (w.0, w.1, sym (turned-turned x) ∙ ap turned w.3)

-- the literals of a closed clause are false by the trail
pub closed-falses : (cs : List (List Lit)) (t : List Entry) (r : ℕ) → IsClosed cs (lits t) r → (x : Lit) → is_in x (clause cs r) ≡ true → IsFalseBy (lit_at t) (length t) x
closed-falses cs t r closed x i = false-by t x (closed_all (is_false (lits t)) (clause cs r) x closed.none i)

pub conflict-from : (vars : ℕ) (cs : List (List Lit)) (t : List Entry) (r from : ℕ) → IsTrail vars cs t → IsClosed cs (lits t) r → from < length t → reason_at t from ≡ None → IsConflict cs t r from
conflict-from vars cs t r from s closed lf d =
    let lt = closed.here in
    let all : (x : Lit) → is_in x (clause cs r) ≡ true → IsFalseBy (lit_at t) (length t) x = closed-falses cs t r closed in
    let found : (x : Lit) × (is_in x (clause cs r) ≡ true) × (is_false (lits (take from t)) x ≡ false) =
    elim (idle_at (lits (take from t)) cs r (s.complete from lf d) lt) [
      | inl m ↦
          (let w = any_some (lits (take from t)) (clause cs r) m in
          let j = in-before t from w.0 w.2 in
          let k = all w.0 w.1 in
          let same_var : (lit_at t j.0).var ≡ (lit_at t k.0).var = ap (λ (y : Lit). y.var) (sym j.3 ∙ k.2) ∙ turned_var (lit_at t k.0) in
          let jl = j.2 in let kl = k.1 in
          absurd (elim (cases_lt j.0 k.0) [
            | inl a ↦ s.apart k.0 j.0 kl a same_var
            | inr a ↦ elim (cases_eq k.0 j.0) [
              | inl q ↦ turned_ne (lit_at t j.0) (ap (λ n. turned (lit_at t n)) (sym q) ∙ (sym k.2 ∙ j.3))
              | inr q ↦ s.apart j.0 k.0 jl (omega arith) (sym same_var)
            ]
          ]))
      | inr m ↦ many_some (is_false (lits (take from t))) (clause cs r) m
    ] in
    let k = all found.0 found.1 in
    let kl = k.1 in
    record {
      here = closed.here;
      falses = all;
      late = found.0;
      place = k.0;
      late_in = found.1;
      late_is = k.2;
      late_low = elim (cases_lt k.0 from) [
        | inr a ↦ a
        | inl a ↦ absurd (true≢false (sym (subst (λ y. is_in y (lits (take from t)) ≡ true) (sym (ap turned k.2 ∙ turned-turned (lit_at t k.0))) (before-in t from k.0 a kl)) ∙ found.2))
      ];
      late_high = kl;
    }

pub reason-from : (cs : List (List Lit)) (t : List Entry) (r : ℕ) (l : Lit) → r < length cs → open_lits (is_false (lits t)) (clause cs r) ≡ l ∷ [] → IsReason cs (lit_at t) (length t) l r
reason-from cs t r l lt e = record {
  inside = lt;
  there = (one_in (is_false (lits t)) (clause cs r) l e).0;
  others = λ x i s. false-by t x (one_others (is_false (lits t)) (clause cs r) l x e i s);
}

pub forced-free : (vars : ℕ) (t : List Entry) (places : List (Option ℕ)) (l : Lit) → IsPlaced vars t places → is_in l (lits t) ≡ false → is_in (turned l) (lits t) ≡ false → place_of places l ≡ None
forced-free vars t places l p a b = elim (option_cases (place_of places l)) [
  | inl q ↦ q
  | inr q ↦
      let k = q.0 in
      let v = (p.to l k q.1).1 in
      let x : same (lit_at t k) l ≡ false = sym (in-some vars t places l k p q.1) ∙ a in
      let y : same (lit_at t k) (turned l) ≡ false = sym (in-some vars t places (turned l) k p (ap (λ n. get_or places n None) (turned_var l) ∙ q.1)) ∙ b in
      absurd (elim (of_one_var (lit_at t k) l v) [
        | inl e ↦ true≢false (sym (same-refl l) ∙ (ap (λ z. same z l) (sym e) ∙ x))
        | inr e ↦ true≢false (sym (same-refl (turned l)) ∙ (ap (λ z. same z (turned l)) (sym (sym (turned-turned (lit_at t k)) ∙ ap turned e)) ∙ y))
      ])
]
