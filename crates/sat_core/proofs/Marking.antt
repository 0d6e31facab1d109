-- Marks at the places of the trail, and how many of them stand from a place on.
use Rattle.std.proofs.Common.{◌≡◌, ℕ, zero, suc, eqb, eq-eqb, ne_eqb, eqb-true, ◌+◌, ◌-◌, ◌<◌, ◌≤◌, leb, ltb, Bool, true, false, cond, not, ◌&&◌, ◌||◌, List, [], ◌∷◌, ◌++◌, take, drop, set, get_or, length, Option, Some, None, refl, sym, ap, ◌∙◌, subst, ◌⊎◌, inl, inr, arith, true≢false, get_or-set_same, get_or-set_other, length-drop, get_or-drop, drop-set-lt}
use Rattle.cnf_form.specs.Lits.{same, is_in, below}
use Rattle.cnf_form.proofs.LitFacts.{same-true, same-refl}
use Rattle.std.proofs.lemmas.Bool.{or_cases, or_left, or_right, and_parts, ltb-true, cases_Bool, cases_eq, false≢true, cases_lt, leb-true, leb-false, le-leb, lt-leb}
use Rattle.std.proofs.lemmas.List.{take_more}
use Rattle.sat_core.specs.Marks.{bit, at, open_from, marked_at, skipped, AreMarked}
use Rattle.sat_core.specs.Trail.{place_of}
use Rattle.sat_core.proofs.Opens.{in_push}
use Rattle.cnf_form.specs.declared.lit.Lit.{Lit}

pub at-set : (xs : List Bool) (k j : ℕ) (b : Bool) → k < length xs → at (set xs k b) j ≡ cond (eqb k j) b (at xs j)
at-set xs k j b h = elim (cases_eq j k) [
  | inl e ↦ rw (e, eq-eqb k k refl) (get_or-set_same xs k b false h)
  | inr n ↦ rw (ne_eqb k j (λ e. n (sym e))) (get_or-set_other xs k j b false n)
]

pub open-before : (p k : ℕ) (xs : List Bool) (b : Bool) → k < p → open_from p (set xs k b) ≡ open_from p xs
open-before zero k xs b h = absurd (omega arith)
open-before (suc p) k [] b h = refl
open-before (suc p) zero (x ∷ xs) b h = refl
open-before (suc p) (suc k) (x ∷ xs) b h = open-before p k xs b (omega arith)

pub open-after : (p k : ℕ) (xs : List Bool) (b : Bool) → p ≤ k → k < length xs → open_from p (set xs k b) + bit (at xs k) ≡ open_from p xs + bit b
open-after p k [] b le lt = absurd (omega arith)
open-after zero zero (x ∷ xs) b le lt = omega arith
open-after zero (suc k) (x ∷ xs) b le lt = let i = open-after zero k xs b (omega arith) (omega arith) in omega arith
open-after (suc p) zero (x ∷ xs) b le lt = absurd (omega arith)
open-after (suc p) (suc k) (x ∷ xs) b le lt = open-after p k xs b (omega arith) (omega arith)

-- where at most one stands, no second one does
pub open-least : (p : ℕ) (xs : List Bool) (k : ℕ) → p ≤ k → at xs k ≡ true → 1 ≤ open_from p xs
open-least zero [] k le h = absurd (false≢true h)
open-least zero (x ∷ xs) zero le h = rw h (omega arith)
open-least zero (x ∷ xs) (suc k) le h = let i = open-least zero xs k (omega arith) h in omega arith
open-least (suc p) [] k le h = absurd (false≢true h)
open-least (suc p) (x ∷ xs) zero le h = absurd (omega arith)
open-least (suc p) (x ∷ xs) (suc k) le h = open-least p xs k (omega arith) h

pub open-none : (p : ℕ) (xs : List Bool) → ((k : ℕ) → p ≤ k → at xs k ≡ false) → open_from p xs ≡ 0
open-none zero [] h = refl
open-none zero (x ∷ xs) h = let e = h 0 (omega arith) in let i = open-none zero xs (λ k le. h (suc k) (omega arith)) in rw e (omega arith)
open-none (suc p) [] h = refl
open-none (suc p) (x ∷ xs) h = open-none p xs (λ k le. h (suc k) (omega arith))

-- the mark at k taken away
pub open-rest : (p k j : ℕ) (xs : List Bool) → p ≤ k → k < length xs → at xs k ≡ true → open_from p xs ≡ 1 → p ≤ j → (j ≡ k → ⊥) → at xs j ≡ false
open-rest p k j xs le lt a one lj ne = elim (cases_Bool (at xs j)) [
  | inr f ↦ f
  | inl t ↦
      let s = open-after p k xs false le lt in
      let s2 = (rw a at s) in
      let l = open-least p (set xs k false) j lj (get_or-set_other xs k j false false ne ∙ t) in
      absurd (omega arith)
]

-- only one place is left, so at most one stands
pub open-few : (p : ℕ) (xs : List Bool) → ((k : ℕ) → suc p ≤ k → at xs k ≡ false) → open_from p xs ≤ 1
open-few zero [] h = omega arith
open-few zero (x ∷ xs) h =
    let i = open-none zero xs (λ k le. h (suc k) (omega arith)) in
    elim (cases_Bool x) [ inl e ↦ rw e (omega arith) | inr e ↦ rw e (omega arith) ]
open-few (suc p) [] h = omega arith
open-few (suc p) (x ∷ xs) h = open-few p xs (λ k le. h (suc k) (omega arith))

pub open-length : (p : ℕ) (xs : List Bool) → open_from p xs ≤ length xs
open-length zero [] = omega arith
open-length zero (x ∷ xs) = let i = open-length zero xs in elim (cases_Bool x) [ inl e ↦ rw e (omega arith) | inr e ↦ rw e (omega arith) ]
open-length (suc p) [] = omega arith
open-length (suc p) (x ∷ xs) = let i = open-length p xs in omega arith

-- a mark that is new
pub open-new : (p k : ℕ) (xs : List Bool) → k < length xs → at xs k ≡ false → open_from p (set xs k true) ≡ open_from p xs + cond (leb p k) 1 0
open-new p k xs lt f = elim (cases_lt k p) [
  | inl h ↦ rw (lt-leb p k h) (open-before p k xs true h ∙ omega arith)
  | inr h ↦ let s = (rw f at (open-after p k xs true h lt)) in rw (le-leb p k h) (omega arith)
]

pub set-again : (xs : List Bool) (k : ℕ) → at xs k ≡ true → set xs k true ≡ xs
set-again [] k e = refl
set-again (x ∷ xs) zero e = rw e refl
set-again (x ∷ xs) (suc k) e = ap (λ ys. x ∷ ys) (set-again xs k e)

pub ruleset marks_of_places = (open-new, open-length, set-again, le-leb, lt-leb)

pub record Marking (places : List (Option ℕ)) (ls : List Lit) (skip : Option Lit) (old new : List Bool) (from count_now : ℕ) : Type 0 where
  pub marks : AreMarked places ls skip old new
  pub count : count_now ≡ open_from from new

pub below-at : (n : ℕ) (ls : List Lit) (i : ℕ) (d : Lit) → below n ls ≡ true → i < length ls → (get_or ls i d).var < n
below-at n [] i d b lt = absurd (omega arith)
below-at n (l ∷ ls) zero d b lt = ltb-true l.var n (and_parts _ _ b).0
below-at n (l ∷ ls) (suc i) d b lt = below-at n ls i d (and_parts (ltb l.var n) _ b).1 (omega arith)

in_push_cases : (x l : Lit) (ls : List Lit) → is_in x (ls ++ l ∷ []) ≡ true → (l ≡ x) ⊎ (is_in x ls ≡ true)
in_push_cases x l ls h = elim (or_cases (same l x) (is_in x ls) (sym (in_push x l ls) ∙ h)) [ inl e ↦ inl (same-true l x e) | inr e ↦ inr e ]

in_push_left : (x l : Lit) (ls : List Lit) → is_in x ls ≡ true → is_in x (ls ++ l ∷ []) ≡ true
in_push_left x l ls h = in_push x l ls ∙ or_right (same l x) (is_in x ls) h

in_push_same : (l : Lit) (ls : List Lit) → is_in l (ls ++ l ∷ []) ≡ true
in_push_same l ls = in_push l l ls ∙ or_left (same l l) (is_in l ls) (same-refl l)

pub AreMarked-skip : (places : List (Option ℕ)) (ls : List Lit) (l : Lit) (skip : Option Lit) (old new : List Bool) → skipped skip l ≡ true → AreMarked places ls skip old new → AreMarked places (ls ++ l ∷ []) skip old new
AreMarked-skip places ls l skip old new s m = record {
  kept = m.kept;
  done = λ x k i n p. elim (in_push_cases x l ls i) [ inl e ↦ absurd (true≢false (sym (subst (λ y. skipped skip y ≡ true) e s) ∙ n)) | inr j ↦ m.done x k j n p ];
  only = λ k a b. let w = m.only k a b in (w.0, in_push_left w.0 l ls w.1, w.2, w.3);
}

at_cases : (o : Option ℕ) (xs : List Bool) (k : ℕ) → at (marked_at o xs) k ≡ true → (at xs k ≡ true) ⊎ (o ≡ Some k)
at_cases None xs k h = inl h
at_cases (Some j) xs k h = elim (cases_eq k j) [ inl e ↦ inr (ap Some (sym e)) | inr n ↦ inl (sym (get_or-set_other xs j k true false n) ∙ h) ]

at_kept : (o : Option ℕ) (xs : List Bool) (k : ℕ) → ((j : ℕ) → o ≡ Some j → j < length xs) → at xs k ≡ true → at (marked_at o xs) k ≡ true
at_kept None xs k f h = h
at_kept (Some j) xs k f h = at-set xs j k true (f j refl) ∙ elim (cases_Bool (eqb j k)) [ inl e ↦ rw e refl | inr e ↦ rw e h ]

at_new : (o : Option ℕ) (xs : List Bool) (k : ℕ) → k < length xs → o ≡ Some k → at (marked_at o xs) k ≡ true
at_new o xs k lt e = rw e (get_or-set_same xs k true false lt)

pub AreMarked-more : (places : List (Option ℕ)) (ls : List Lit) (l : Lit) (skip : Option Lit) (old new last : List Bool) → skipped skip l ≡ false → ((k : ℕ) → place_of places l ≡ Some k → k < length new) → last ≡ marked_at (place_of places l) new → AreMarked places ls skip old new → AreMarked places (ls ++ l ∷ []) skip old last
AreMarked-more places ls l skip old new last s f e m =
    subst (λ z. AreMarked places (ls ++ l ∷ []) skip old z) (sym e) (record {
      kept = λ k h. at_kept (place_of places l) new k f (m.kept k h);
      done = λ x k i n p. elim (in_push_cases x l ls i) [
        | inl q ↦ let pl : place_of places l ≡ Some k = subst (λ y. place_of places y ≡ Some k) (sym q) p in at_new (place_of places l) new k (f k pl) pl
        | inr j ↦ at_kept (place_of places l) new k f (m.done x k j n p)
      ];
      only = λ k a b. elim (at_cases (place_of places l) new k a) [
        | inl h ↦ let w = m.only k h b in (w.0, in_push_left w.0 l ls w.1, w.2, w.3)
        | inr p ↦ (l, in_push_same l ls, s, p)
      ];
    })

pub AreMarked-none : (places : List (Option ℕ)) (skip : Option Lit) (old : List Bool) → AreMarked places [] skip old old
AreMarked-none places skip old = record {
  kept = λ k h. h;
  done = λ x k i. absurd (false≢true i);
  only = λ k a b. absurd (true≢false (sym a ∙ b));
}

abbrev pub no_lit : Lit
no_lit = record { var = 0; positive = false }

pub AreMarked-skip-at : (places : List (Option ℕ)) (ls : List Lit) (i : ℕ) (skip : Option Lit) (old new : List Bool) → i < length ls → skipped skip (get_or ls i no_lit) ≡ true → AreMarked places (take i ls) skip old new → AreMarked places (take (i + 1) ls) skip old new
AreMarked-skip-at places ls i skip old new lt s m = subst (λ z. AreMarked places z skip old new) (sym (take_more ls i no_lit lt)) (AreMarked-skip places (take i ls) (get_or ls i no_lit) skip old new s m)

pub AreMarked-more-at : (places : List (Option ℕ)) (ls : List Lit) (i : ℕ) (skip : Option Lit) (old new last : List Bool) → i < length ls → skipped skip (get_or ls i no_lit) ≡ false → ((k : ℕ) → place_of places (get_or ls i no_lit) ≡ Some k → k < length new) → last ≡ marked_at (place_of places (get_or ls i no_lit)) new → AreMarked places (take i ls) skip old new → AreMarked places (take (i + 1) ls) skip old last
AreMarked-more-at places ls i skip old new last lt s f e m = subst (λ z. AreMarked places z skip old last) (sym (take_more ls i no_lit lt)) (AreMarked-more places (take i ls) (get_or ls i no_lit) skip old new last s f e m)

pub open-mono : (p : ℕ) (xs ys : List Bool) → length xs ≡ length ys → ((k : ℕ) → at xs k ≡ true → at ys k ≡ true) → open_from p xs ≤ open_from p ys
open-mono zero [] ys l h = omega arith
open-mono zero (x ∷ xs) [] l h = absurd (omega arith)
open-mono zero (x ∷ xs) (y ∷ ys) l h =
    let i = open-mono zero xs ys (omega arith) (λ k. h (suc k)) in
    elim (cases_Bool x) [ inl e ↦ rw (e, h 0 e) (omega arith) | inr e ↦ rw e (omega arith) ]
open-mono (suc p) [] ys l h = omega arith
open-mono (suc p) (x ∷ xs) [] l h = absurd (omega arith)
open-mono (suc p) (x ∷ xs) (y ∷ ys) l h = open-mono p xs ys (omega arith) (λ k. h (suc k))
