-- The walk down to the bottom of the trail, where nothing was decided.
use Rattle.std.proofs.Common.{◌≡◌, ℕ, ◌+◌, ◌<◌, ◌≤◌, ℤ, pos, Bool, true, false, List, [], ◌∷◌, length, Option, Some, None, refl, subst, inl, inr, arith}
use Rattle.std.proofs.lemmas.Bool.{cases_Bool, false≢true, or_left, or_right}
use Rattle.cnf_form.specs.declared.lit.Lit.{Lit}
use Rattle.cnf_form.specs.Lits.{turned, is_in}
use Rattle.cnf_form.specs.Lines.{is_nil}
use Rattle.proof_check.specs.Check.{named, numbered, hints_fault}
use Rattle.proof_check.specs.Spent.{has, stands_in}
use Rattle.sat_core.specs.declared.trail.Entry.{Entry}
use Rattle.sat_core.specs.Conflicts.{Leads}
use Rattle.sat_core.specs.Marks.{at, AreMarked}
use Rattle.sat_core.specs.Trail.{lit_at, reason_at, clause, IsFalseBy, IsTrail, IsPlaced}
use Rattle.sat_core.proofs.Leading.{Leads-start, Leads-skip, Leads-more}
use Rattle.sat_core.proofs.Walking.{AreOnce, place_false, place_is, numbered-clause}

pub record Falling (cs : List (List Lit)) (t : List Entry) (i : ℕ) (seen : List Bool) (hs : List ℤ) : Type 0 where
  pub leads : Leads (numbered cs) (lit_at t) (at seen) i hs
  pub stand : (k : ℕ) → at seen k ≡ true → stands_in (numbered cs) hs (turned (lit_at t k)) ≡ true
  pub some : is_nil hs ≡ false

module _ (vars : ℕ) (cs : List (List Lit)) (t : List Entry) (places : List (Option ℕ)) (trail : IsTrail vars cs t) (placed : IsPlaced vars t places) (once : AreOnce cs) where
  pub Falling-start : (seen none : List Bool) (r : ℕ) → r < length cs → ((x : Lit) → is_in x (clause cs r) ≡ true → IsFalseBy (lit_at t) (length t) x) → ((k : ℕ) → at none k ≡ false) → AreMarked places (clause cs r) None none seen → Falling cs t (length t) seen (pos (r + 1) ∷ [])
  Falling-start seen none r lt f n m = record {
    leads = Leads-start (numbered cs) (lit_at t) (at seen) (length t) (r + 1) (clause cs r) (numbered-clause cs r lt)
        (λ x i. let w = f x i in (w.0, w.1, w.2, m.done x w.0 i refl (place_false vars t places x w.0 placed w.1 w.2)));
    stand = λ k h. (let w = m.only k h (n k) in
        let q = place_is vars cs t places 0 trail placed once w.0 (length t) k (omega arith) (f w.0 w.1) w.3 in
        rw (numbered-clause cs r lt) (or_left _ _ (subst (λ z. is_in z (clause cs r) ≡ true) q.1 w.1)));
    some = refl;
  }

  pub Falling-skip : (i : ℕ) (seen : List Bool) (hs : List ℤ) → at seen i ≡ false → Falling cs t (i + 1) seen hs → Falling cs t i seen hs
  Falling-skip i seen hs e w = record { leads = Leads-skip (numbered cs) (lit_at t) (at seen) i hs e w.leads; stand = w.stand; some = w.some }

  pub Falling-more : (i : ℕ) (seen new : List Bool) (r : ℕ) (hs : List ℤ) → i < length t → at seen i ≡ true → reason_at t i ≡ Some r → AreMarked places (clause cs r) (Some (lit_at t i)) seen new → Falling cs t (i + 1) seen hs → Falling cs t i new (pos (r + 1) ∷ hs)
  Falling-more i seen new r hs lt here why m w =
      let rs = trail.reasons i r lt why in
      let e = numbered-clause cs r rs.inside in
      record {
        leads = Leads-more (numbered cs) (lit_at t) (at seen) (at new) i (length t) (r + 1) (clause cs r) hs lt trail.apart e (once r rs.inside) rs.there
            (λ x j s. let f = rs.others x j s in (f.0, f.1, f.2, m.done x f.0 j s (place_false vars t places x f.0 placed (let l = f.1 in omega arith) f.2)))
            (λ k l h. m.kept k h) w.some (w.stand i here) w.leads;
        stand = λ k h. elim (cases_Bool (at seen k)) [
          | inl g ↦ or_right (has (turned (lit_at t k)) (named (numbered cs) (pos (r + 1)))) _ (w.stand k g)
          | inr g ↦ let x = m.only k h g in
              let q = place_is vars cs t places 0 trail placed once x.0 i k (omega arith) (rs.others x.0 x.1 x.2) x.3 in
              rw e (or_left _ _ (subst (λ z. is_in z (clause cs r) ≡ true) q.1 x.1))
        ];
        some = refl;
      }

pub Falling-end : (cs : List (List Lit)) (t : List Entry) (i : ℕ) (seen : List Bool) (hs : List ℤ) → i ≤ 0 → Falling cs t i seen hs → hints_fault (numbered cs) (λ x. false) hs ≡ None
Falling-end cs t i seen hs z w = (w.leads (λ x. false) (λ k l s. absurd (omega arith)) (λ x f. absurd (false≢true f))).accepted
