-- The walk back along the trail, step by step.
use Rattle.std.proofs.Common.{◌≡◌, ℕ, ◌+◌, ◌-◌, ◌<◌, ◌≤◌, ℤ, pos, Bool, true, false, List, [], ◌∷◌, get_or, set, length, Option, Some, None, refl, sym, ap, ◌∙◌, subst, inl, inr, arith, true≢false, get_or-set_same, get_or-set_other, length-set, add-one}
use Rattle.std.proofs.lemmas.Bool.{cases_Bool, cases_eq, false≢true, or_left, or_right}
use Rattle.std.proofs.lemmas.Option.{same_Some, slice_get-get_or}
use Rattle.cnf_form.specs.declared.lit.Lit.{Lit}
use Rattle.cnf_form.specs.Lits.{same, turned, is_in, no_twice}
use Rattle.cnf_form.proofs.LitFacts.{turned_var}
use Rattle.cnf_form.specs.Lines.{is_nil}
use Rattle.proof_check.specs.Check.{named, numbered}
use Rattle.proof_check.specs.Spent.{has, stands_in}
use Rattle.sat_core.specs.declared.trail.Entry.{Entry}
use Rattle.sat_core.specs.Marks.{at, open_from, AreMarked}
use Rattle.sat_core.specs.Trail.{lit_at, reason_at, clause, place_of, IsFalseBy, IsTrail, IsPlaced}
use Rattle.sat_core.proofs.Marking.{open-after, open-least, open-mono, open-rest, open-few, open-none}
use Rattle.sat_core.specs.Conflicts.{Leads, HasWalked}
use Rattle.sat_core.proofs.Leading.{Leads-start, Leads-skip, Leads-more}

-- each clause has no literal twice
abbrev pub AreOnce : List (List Lit) → Type 0
AreOnce cs = (r : ℕ) → r < length cs → no_twice (clause cs r) ≡ true

pub record Walking (cs : List (List Lit)) (t : List Entry) (from i : ℕ) (seen : List Bool) (count : ℕ) (hs : List ℤ) : Type 0 where
  pub leads : Leads (numbered cs) (lit_at t) (at seen) i hs
  pub stand : (k : ℕ) → at seen k ≡ true → stands_in (numbered cs) hs (turned (lit_at t k)) ≡ true
  pub some : is_nil hs ≡ false
  pub counted : count ≡ open_from from seen
  pub gone : (k : ℕ) → i ≤ k → at seen k ≡ false
  pub left : 1 ≤ count

pub numbered-clause : (cs : List (List Lit)) (r : ℕ) → r < length cs → numbered cs (r + 1) ≡ Some (clause cs r)
numbered-clause cs r lt = rw add-one (slice_get-get_or cs r [] lt)

-- a false literal's place is where the trail has it
pub place_false : (vars : ℕ) (t : List Entry) (places : List (Option ℕ)) (x : Lit) (j : ℕ) → IsPlaced vars t places → j < length t → x ≡ turned (lit_at t j) → place_of places x ≡ Some j
place_false vars t places x j p lt e = ap (λ (v : ℕ). get_or places v None) (ap (λ (y : Lit). y.var) e ∙ turned_var (lit_at t j)) ∙ p.from j lt

module _ (vars : ℕ) (cs : List (List Lit)) (t : List Entry) (places : List (Option ℕ)) (from : ℕ) (trail : IsTrail vars cs t) (placed : IsPlaced vars t places) (once : AreOnce cs) where
  pub place_is : (x : Lit) (i k : ℕ) → i ≤ length t → IsFalseBy (lit_at t) i x → place_of places x ≡ Some k → (k < i) × (x ≡ turned (lit_at t k))
  place_is x i k le f p =
      let q = place_false vars t places x f.0 placed (let lt = f.1 in omega arith) f.2 in
      let e : f.0 ≡ k = same_Some f.0 k (sym q ∙ p) in
      (subst (λ j. j < i) e f.1, subst (λ j. x ≡ turned (lit_at t j)) e f.2)

  pub Walking-start : (seen none : List Bool) (count r : ℕ) → r < length cs → ((x : Lit) → is_in x (clause cs r) ≡ true → IsFalseBy (lit_at t) (length t) x) → ((k : ℕ) → at none k ≡ false) → AreMarked places (clause cs r) None none seen
      → count ≡ open_from from seen → (y : Lit) (j : ℕ) → is_in y (clause cs r) ≡ true → place_of places y ≡ Some j → from ≤ j → Walking cs t from (length t) seen count (pos (r + 1) ∷ [])
  Walking-start seen none count r lt f n m c y j iy py fj = record {
    leads = Leads-start (numbered cs) (lit_at t) (at seen) (length t) (r + 1) (clause cs r) (numbered-clause cs r lt)
        (λ x i. let w = f x i in (w.0, w.1, w.2, m.done x w.0 i refl (place_false vars t places x w.0 placed w.1 w.2)));
    stand = λ k h. (let w = m.only k h (n k) in
        let q = place_is w.0 (length t) k (omega arith) (f w.0 w.1) w.3 in
        let e = numbered-clause cs r lt in
        rw e (or_left _ _ (subst (λ z. is_in z (clause cs r) ≡ true) q.1 w.1)));
    some = refl;
    counted = c;
    gone = λ k le. (elim (cases_Bool (at seen k)) [
      | inr e ↦ e
      | inl h ↦ let w = m.only k h (n k) in let q = place_is w.0 (length t) k (omega arith) (f w.0 w.1) w.3 in absurd (let lt2 = q.0 in omega arith)
    ]);
    left = let l = open-least from seen j fj (m.done y j iy refl py) in omega arith;
  }

  pub Walking-skip : (i : ℕ) (seen : List Bool) (count : ℕ) (hs : List ℤ) → at seen i ≡ false → Walking cs t from (i + 1) seen count hs → Walking cs t from i seen count hs
  Walking-skip i seen count hs e w = record {
    leads = Leads-skip (numbered cs) (lit_at t) (at seen) i hs e w.leads;
    stand = w.stand;
    some = w.some;
    counted = w.counted;
    gone = λ k le. elim (cases_eq k i) [ inl q ↦ ap (at seen) q ∙ e | inr q ↦ w.gone k (omega arith) ];
    left = w.left;
  }

  pub Walking-more : (i : ℕ) (seen new : List Bool) (count last r : ℕ) (hs : List ℤ) → i < length t → length seen ≡ length t → length new ≡ length t → from ≤ i → at seen i ≡ true → 2 ≤ count → reason_at t i ≡ Some r
      → AreMarked places (clause cs r) (Some (lit_at t i)) (set seen i false) new → last ≡ open_from from new
      → Walking cs t from (i + 1) seen count hs → Walking cs t from i new last (pos (r + 1) ∷ hs)
  Walking-more i seen new count last r hs lt ls ln fi here two why m c w =
      let rs = trail.reasons i r lt why in
      let e = numbered-clause cs r rs.inside in
      let other : (x : Lit) (k : ℕ) → is_in x (clause cs r) ≡ true → same x (lit_at t i) ≡ false → place_of places x ≡ Some k → (k < i) × (x ≡ turned (lit_at t k)) =
      λ x k j s p. place_is x i k (omega arith) (rs.others x j s) p in
      let less : (k : ℕ) → at (set seen i false) k ≡ true → (at seen k ≡ true) × (k ≡ i → ⊥) =
      λ k h. elim (cases_eq k i) [
        | inl q ↦ absurd (false≢true (sym (get_or-set_same seen i false false (omega arith)) ∙ (ap (at (set seen i false)) (sym q) ∙ h)))
        | inr q ↦ (sym (get_or-set_other seen i k false false q) ∙ h, q)
      ] in
      let keep : (k : ℕ) → (k ≡ i → ⊥) → at seen k ≡ true → at new k ≡ true = λ k q h. m.kept k (get_or-set_other seen i k false false q ∙ h) in
      record {
        leads = Leads-more (numbered cs) (lit_at t) (at seen) (at new) i (length t) (r + 1) (clause cs r) hs lt trail.apart e (once r rs.inside) rs.there
            (λ x j s. let f = rs.others x j s in (f.0, f.1, f.2, m.done x f.0 j s (place_false vars t places x f.0 placed (let l = f.1 in omega arith) f.2)))
            (λ k l h. keep k (omega arith) h) w.some (w.stand i here) w.leads;
        stand = λ k h. elim (cases_Bool (at (set seen i false) k)) [
          | inl g ↦ or_right (has (turned (lit_at t k)) (named (numbered cs) (pos (r + 1)))) _ (w.stand k (less k g).0)
          | inr g ↦ let x = m.only k h g in rw e (or_left _ _ (subst (λ z. is_in z (clause cs r) ≡ true) (other x.0 k x.1 x.2 x.3).1 x.1))
        ];
        some = refl;
        counted = c;
        gone = λ k le. elim (cases_Bool (at new k)) [
          | inr f ↦ f
          | inl h ↦ elim (cases_Bool (at (set seen i false) k)) [
            | inl g ↦ let q = less k g in absurd (true≢false (sym q.0 ∙ w.gone k (let ne = q.1 in omega arith)))
            | inr g ↦ let x = m.only k h g in absurd (let l = (other x.0 k x.1 x.2 x.3).0 in omega arith)
          ]
        ];
        left =
            let a = (rw here at (open-after from i seen false fi (omega arith))) in
            let b = open-mono from (set seen i false) new (length-set seen i false ∙ (ls ∙ sym ln)) m.kept in
            let d = w.counted in omega arith;
      }

pub Walking-stop : (cs : List (List Lit)) (t : List Entry) (from i : ℕ) (seen : List Bool) (count : ℕ) (hs : List ℤ) → length seen ≡ length t → from ≤ i → i < length t → at seen i ≡ true → count ≡ 1 → Walking cs t from (i + 1) seen count hs → HasWalked cs t from i seen hs
Walking-stop cs t from i seen count hs ls fi lt here one w = record {
  leads = w.leads;
  stand = w.stand;
  low = fi;
  high = lt;
  here = here;
  alone = λ k fk ne. open-rest from i k seen fi (omega arith) here (sym w.counted ∙ one) fk ne;
}

pub Walking-few : (cs : List (List Lit)) (t : List Entry) (from : ℕ) (seen : List Bool) (count : ℕ) (hs : List ℤ) → Walking cs t from (from + 1) seen count hs → (count ≡ 1 → ⊥) → ⊥
Walking-few cs t from seen count hs w ne = let f = open-few from seen (λ k le. w.gone k (omega arith)) in let c = w.counted in let l = w.left in ne (omega arith)

pub Walking-empty : (cs : List (List Lit)) (t : List Entry) (from i : ℕ) (seen : List Bool) (count : ℕ) (hs : List ℤ) → Walking cs t from i seen count hs → i ≤ from → ⊥
Walking-empty cs t from i seen count hs w le = let f = open-none from seen (λ k h. w.gone k (omega arith)) in let c = w.counted in let l = w.left in omega arith

pub count-less : (from i count : ℕ) (seen : List Bool) → from ≤ i → i < length seen → at seen i ≡ true → count ≡ open_from from seen → count - 1 ≡ open_from from (set seen i false)
count-less from i count seen fi lt here c = let a = (rw here at (open-after from i seen false fi lt)) in omega arith
