-- The literals of a clause that aren't false, and clauses at which propagation does nothing.
use Rattle.std.proofs.Common.{◌≡◌, ℕ, zero, suc, ◌+◌, ◌<◌, ◌≤◌, drop, get_or, length, Bool, true, false, not, ◌||◌, List, [], ◌∷◌, ◌++◌, refl, sym, ap, ◌∙◌, subst, ◌⊎◌, inl, inr, arith, true≢false}
use Rattle.std.specs.List.{list_any}
use Rattle.std.proofs.lemmas.Bool.{cases_Bool, and_parts, or_cases, or_left, or_right, not-true, ltb-true, false≢true}
use Rattle.cnf_form.specs.declared.lit.Lit.{Lit}
use Rattle.cnf_form.specs.Lits.{same, is_in, no_twice, below}
use Rattle.cnf_form.specs.Marks.{marks_of}
use Rattle.cnf_form.proofs.MarkFacts.{marks_of_push}
use Rattle.cnf_form.proofs.LitFacts.{same-refl, same_cases, is_in_cases, is_in-head, is_in-tail}
use Rattle.proof_check.specs.Check.{open_lits}
use Rattle.proof_check.specs.Spent.{IsIdle}
use Rattle.proof_check.proofs.Following.{open_marked, open_unmarked, open_end}
use Rattle.sat_core.specs.declared.look.Standing.TheVariants.{Closed, One, Many}
use Rattle.sat_core.specs.Passes.{look_of}
use Rattle.sat_core.specs.Trail.{clause, AreIdle}

pub ruleset looks = (open_marked, open_unmarked, open_end)

pub below-in : (n : ℕ) (c : List Lit) (x : Lit) → below n c ≡ true → is_in x c ≡ true → x.var < n
below-in n [] x b i = absurd (false≢true i)
below-in n (l ∷ ls) x b i =
    let p = and_parts (Rattle.std.proofs.Common.ltb l.var n) (below n ls) b in
    elim (is_in_cases x l ls i) [ inl q ↦ subst (λ (y : Lit). y.var < n) (sym q) (ltb-true l.var n p.0) | inr j ↦ below-in n ls x p.1 j ]

pub in_push : (x l : Lit) (ls : List Lit) → is_in x (ls ++ l ∷ []) ≡ (same l x || is_in x ls)
in_push x l ls = ap (λ (marks : Lit → Bool). marks x) (marks_of_push ls l)

-- ---- open literals

in_open : (f : Lit → Bool) (c : List Lit) (x : Lit) → is_in x c ≡ true → f x ≡ false → is_in x (open_lits f c) ≡ true
in_open f [] x i e = absurd (false≢true i)
in_open f (l ∷ ls) x i e = elim (cases_Bool (f l)) [
  | inl t ↦ rw t (elim (is_in_cases x l ls i) [ inl q ↦ absurd (true≢false (sym (subst (λ y. f y ≡ true) (sym q) t) ∙ e)) | inr j ↦ in_open f ls x j e ])
  | inr t ↦ rw t (elim (is_in_cases x l ls i) [ inl q ↦ is_in-head x l (open_lits f ls) q | inr j ↦ is_in-tail x l (open_lits f ls) (in_open f ls x j e) ])
]

open_in : (f : Lit → Bool) (c : List Lit) (x : Lit) → is_in x (open_lits f c) ≡ true → (is_in x c ≡ true) × (f x ≡ false)
open_in f [] x i = absurd (false≢true i)
open_in f (l ∷ ls) x i = elim (cases_Bool (f l)) [
  | inl t ↦ let w = open_in f ls x (rw t at i) in (is_in-tail x l ls w.0, w.1)
  | inr t ↦ elim (is_in_cases x l (open_lits f ls) (rw t at i)) [
    | inl q ↦ (is_in-head x l ls q, subst (λ y. f y ≡ false) (sym q) t)
    | inr j ↦ let w = open_in f ls x j in (is_in-tail x l ls w.0, w.1)
  ]
]

-- where no literal is open, all are false
pub closed_all : (f : Lit → Bool) (c : List Lit) (x : Lit) → open_lits f c ≡ [] → is_in x c ≡ true → f x ≡ true
closed_all f c x e i = elim (cases_Bool (f x)) [
  | inl t ↦ t
  | inr t ↦ absurd (false≢true (subst (λ ls. is_in x ls ≡ true) e (in_open f c x i t)))
]

pub closed_by : (f : Lit → Bool) (c : List Lit) → ((x : Lit) → is_in x c ≡ true → f x ≡ true) → open_lits f c ≡ []
closed_by f [] h = refl
closed_by f (l ∷ ls) h = rw (h l (is_in-head l l ls refl)) (closed_by f ls (λ x i. h x (is_in-tail x l ls i)))

-- where one is, it stands in the clause, and the others are false
pub one_in : (f : Lit → Bool) (c : List Lit) (l : Lit) → open_lits f c ≡ l ∷ [] → (is_in l c ≡ true) × (f l ≡ false)
one_in f c l e = open_in f c l (subst (λ ls. is_in l ls ≡ true) (sym e) (is_in-head l l [] refl))

pub one_others : (f : Lit → Bool) (c : List Lit) (l x : Lit) → open_lits f c ≡ l ∷ [] → is_in x c ≡ true → same x l ≡ false → f x ≡ true
one_others f c l x e i s = elim (cases_Bool (f x)) [
  | inl t ↦ t
  | inr t ↦ elim (is_in_cases x l [] (subst (λ ls. is_in x ls ≡ true) e (in_open f c x i t))) [
    | inl q ↦ absurd (true≢false (sym (same-refl l) ∙ (ap (λ y. same y l) (sym q) ∙ s)))
    | inr j ↦ absurd (false≢true j)
  ]
]

pub one_below : (n : ℕ) (f : Lit → Bool) (c : List Lit) (l : Lit) → open_lits f c ≡ l ∷ [] → below n c ≡ true → l.var < n
one_below n f c l e b = below-in n c l b (one_in f c l e).0

-- every literal but one is false
pub one_by : (f : Lit → Bool) (c : List Lit) (l : Lit) → no_twice c ≡ true → is_in l c ≡ true → f l ≡ false → ((x : Lit) → is_in x c ≡ true → same x l ≡ false → f x ≡ true) → open_lits f c ≡ l ∷ []
one_by f [] l once i e h = absurd (false≢true i)
one_by f (m ∷ ms) l once i e h =
    let p = and_parts (not (is_in m ms)) (no_twice ms) once in
    elim (same_cases m l) [
      | inl s ↦
          let open_here : f m ≡ false = subst (λ y. f y ≡ false) (sym s.1) e in
          let rest : open_lits f ms ≡ [] = closed_by f ms (λ x j. h x (is_in-tail x m ms j) (elim (same_cases x l) [
            | inr d ↦ d.0
            | inl d ↦ absurd (true≢false (sym j ∙ (ap (λ y. is_in y ms) (d.1 ∙ sym s.1) ∙ not-true (is_in m ms) p.0)))
          ])) in
          rw (open_here, rest) (ap (λ y. y ∷ []) s.1)
      | inr s ↦ rw (h m (is_in-head m m ms refl) s.0)
          (one_by f ms l p.1 (elim (is_in_cases l m ms i) [ inl d ↦ absurd (s.1 (sym d)) | inr d ↦ d ]) e (λ x j. h x (is_in-tail x m ms j)))
    ]

-- ---- two open literals

some_of : (ls : List Lit) → 1 ≤ length ls → (x : Lit) × (is_in x ls ≡ true)
some_of [] h = absurd (omega arith)
some_of (l ∷ ls) h = (l, is_in-head l l ls refl)

pub many_some : (f : Lit → Bool) (c : List Lit) → 2 ≤ length (open_lits f c) → (x : Lit) × (is_in x c ≡ true) × (f x ≡ false)
many_some f c h = let w = some_of (open_lits f c) (omega arith) in let p = open_in f c w.0 w.1 in (w.0, p.0, p.1)

two_of : (ls : List Lit) (x y : Lit) → is_in x ls ≡ true → is_in y ls ≡ true → (x ≡ y → ⊥) → 2 ≤ length ls
two_of [] x y i j ne = absurd (false≢true i)
two_of (l ∷ []) x y i j ne = elim (is_in_cases x l [] i) [
  | inr k ↦ absurd (false≢true k)
  | inl p ↦ elim (is_in_cases y l [] j) [ inr k ↦ absurd (false≢true k) | inl q ↦ absurd (ne (p ∙ sym q)) ]
]
two_of (l ∷ k ∷ ls) x y i j ne = omega arith

pub two_many : (f : Lit → Bool) (c : List Lit) (x y : Lit) → is_in x c ≡ true → is_in y c ≡ true → (x ≡ y → ⊥) → f x ≡ false → f y ≡ false → 2 ≤ length (open_lits f c)
two_many f c x y i j ne fx fy = two_of (open_lits f c) x y (in_open f c x i fx) (in_open f c y j fy) ne

-- ---- what a look tells

pub look_closed : (ls : List Lit) → Closed ≡ look_of ls → ls ≡ []
look_closed [] e = refl
look_closed (l ∷ []) e = cc
look_closed (l ∷ k ∷ ls) e = cc

one_is : (l m : Lit) → One l ≡ One m → m ≡ l
one_is l m e = cc

pub look_one : (ls : List Lit) (l : Lit) → One l ≡ look_of ls → ls ≡ l ∷ []
look_one [] l e = cc
look_one (m ∷ []) l e = ap (λ y. y ∷ []) (one_is l m e)
look_one (m ∷ k ∷ ls) l e = cc

pub look_many : (ls : List Lit) → Many ≡ look_of ls → 2 ≤ length ls
look_many [] e = cc
look_many (l ∷ []) e = cc
look_many (l ∷ k ∷ ls) e = omega arith

-- ---- idle clauses

any_by : (a c : List Lit) (x : Lit) → is_in x c ≡ true → is_in x a ≡ true → list_any (marks_of a) c ≡ true
any_by a [] x i h = absurd (false≢true i)
any_by a (l ∷ ls) x i h = elim (is_in_cases x l ls i) [
  | inl q ↦ or_left (is_in l a) (list_any (marks_of a) ls) (subst (λ y. is_in y a ≡ true) q h)
  | inr j ↦ or_right (is_in l a) (list_any (marks_of a) ls) (any_by a ls x j h)
]

pub any_some : (a c : List Lit) → list_any (marks_of a) c ≡ true → (x : Lit) × (is_in x c ≡ true) × (is_in x a ≡ true)
any_some a [] h = absurd (false≢true h)
any_some a (l ∷ ls) h = elim (or_cases (is_in l a) (list_any (marks_of a) ls) h) [
  | inl q ↦ (l, is_in-head l l ls refl, q)
  | inr q ↦ let w = any_some a ls q in (w.0, is_in-tail w.0 l ls w.1, w.2)
]

pub idle_true : (a c : List Lit) (x : Lit) → is_in x c ≡ true → is_in x a ≡ true → IsIdle (marks_of a) c
idle_true a c x i h = inl (any_by a c x i h)

pub idle_push : (a : List Lit) (cs : List (List Lit)) (c : List Lit) → AreIdle a cs → IsIdle (marks_of a) c → AreIdle a (cs ++ c ∷ [])
idle_push a [] c h k = (k, tt)
idle_push a (d ∷ ds) c h k = (h.0, idle_push a ds c h.1 k)

pub idle_all : (a : List Lit) (cs : List (List Lit)) → ((r : ℕ) → r < length cs → IsIdle (marks_of a) (clause cs r)) → AreIdle a cs
idle_all a [] h = tt
idle_all a (d ∷ ds) h = (h 0 (omega arith), idle_all a ds (λ r lt. h (suc r) (omega arith)))

pub idle_at : (a : List Lit) (cs : List (List Lit)) (r : ℕ) → AreIdle a cs → r < length cs → IsIdle (marks_of a) (clause cs r)
idle_at a [] r h lt = absurd (omega arith)
idle_at a (d ∷ ds) zero h lt = h.0
idle_at a (d ∷ ds) (suc r) h lt = idle_at a ds r h.1 (omega arith)
