-- The laws of marks, and of stamps in an array.
use Rattle.std.proofs.Common.{◌≡◌, ℕ, ◌+◌, ◌*◌, ◌<◌, ◌≤◌, cond, eqb, length, get_or, set, Bool, true, false, not, ◌||◌, List, [], ◌∷◌, ◌++◌, refl, sym, ap, ◌∙◌, subst, inl, inr, arith, eq-eqb, ne_eqb, get_or-set_same, get_or-set_other}
use Rattle.std.proofs.lemmas.Bool.{and_from, and_parts, or_parts, or_from, not_from_false}
use Rattle.std.proofs.lemmas.Grind.{common_steps}
use Rattle.cnf_form.specs.declared.lit.Lit.{Lit}
use Rattle.cnf_form.specs.Lits.{same, is_in, no_twice}
use Rattle.cnf_form.specs.Marks.{unmarked, with_mark, marks_of}
use Rattle.cnf_form.specs.Stamps.{place, stamped, UpTo}
use Rattle.cnf_form.proofs.LitFacts.{same_cases, same-swap, no_longer}

-- ---- stamps

same_bits : (a b : Bool) (m n : ℕ) → 2 * m + cond a 1 0 ≡ 2 * n + cond b 1 0 → (m ≡ n) × (a ≡ b)
same_bits true true m n e = (omega arith, refl)
same_bits false false m n e = (omega arith, refl)
same_bits true false m n e = absurd (omega arith)
same_bits false true m n e = absurd (omega arith)

one_place : (a b : Lit) → place a ≡ place b → a ≡ b
unfolding place
one_place a b e =
    let p = same_bits a.positive b.positive a.var b.var e in
    λ i. record { var = p.0 i; positive = p.1 i }

stamped-set : (stamps : List ℕ) (stamp : ℕ) (l x : Lit) → place l < length stamps → stamped (set stamps (place l) stamp) stamp x ≡ (same l x || stamped stamps stamp x)
unfolding stamped
stamped-set stamps stamp l x h = elim (same_cases l x) [
  | inl p ↦ rw p.0 (rw (← p.1) (eq-eqb _ stamp (get_or-set_same stamps (place l) stamp 0 h)))
  | inr p ↦ rw p.0 (ap (λ n. eqb n stamp) (get_or-set_other stamps (place l) (place x) stamp 0 (λ e. p.1 (sym (one_place x l e)))))
]

stamped_like : (s t : List ℕ) (stamp : ℕ) (x : Lit) → ((k : ℕ) → get_or s k 0 ≡ get_or t k 0) → stamped s stamp x ≡ stamped t stamp x
unfolding stamped
stamped_like s t stamp x h = ap (λ n. eqb n stamp) (h (place x))

-- an array of the same stamps
pub stamped_same : (old stamps : List ℕ) (stamp : ℕ) → ((k : ℕ) → get_or stamps k 0 ≡ get_or old k 0) → stamped stamps stamp ≡ stamped old stamp
stamped_same old stamps stamp h = λ i x. stamped_like stamps old stamp x h i

-- a stamp that is written
pub stamped_write : (old stamps : List ℕ) (stamp : ℕ) (l : Lit) → ((k : ℕ) → get_or stamps k 0 ≡ get_or old k 0) → place l < length stamps → stamped (set stamps (place l) stamp) stamp ≡ with_mark l (stamped old stamp)
stamped_write old stamps stamp l h r =
    λ i x. (stamped-set stamps stamp l x r ∙ ap (λ b. same l x || b) (stamped_like stamps old stamp x h)) i

UpTo-set : (stamps : List ℕ) (n i : ℕ) → UpTo stamps n → UpTo (set stamps i n) n
UpTo-set stamps n i h k = grind (arith, common_steps, h k)

pub UpTo_same : (old stamps : List ℕ) (n : ℕ) → ((k : ℕ) → get_or stamps k 0 ≡ get_or old k 0) → UpTo old n → UpTo stamps n
UpTo_same old stamps n h u k = subst (λ y. y ≤ n) (sym (h k)) (u k)

pub UpTo_write : (old stamps : List ℕ) (n i : ℕ) → ((k : ℕ) → get_or stamps k 0 ≡ get_or old k 0) → UpTo old n → UpTo (set stamps i n) n
UpTo_write old stamps n i h u = UpTo-set stamps n i (UpTo_same old stamps n h u)

pub UpTo_more : (stamps : List ℕ) (n : ℕ) → UpTo stamps n → UpTo stamps (n + 1)
UpTo_more stamps n u k = let h = u k in omega (arith, h)

-- a stamp past all others stands nowhere
pub none_past : (stamps : List ℕ) (n : ℕ) → UpTo stamps n → stamped stamps (n + 1) ≡ unmarked
unfolding stamped
none_past stamps n u = λ i x. ne_eqb (get_or stamps (place x) 0) (n + 1) (let le = u (place x) in omega (arith, le)) i

-- none stands in an empty array
pub none_in_empty : (stamps : List ℕ) → stamps ≡ [] → stamped stamps 1 ≡ unmarked
none_in_empty stamps e = rw e (none_past [] 0 (λ k. omega arith))

pub ruleset stamp_facts = (stamped_same, stamped_write, UpTo_same, UpTo_write, UpTo_more, none_past, none_in_empty)

-- ---- the marks of a list

or_swap : (a b c : Bool) → (a || (b || c)) ≡ (b || (a || c))
or_swap true true c = refl
or_swap true false c = refl
or_swap false true c = refl
or_swap false false c = refl

is_in-push : (x l : Lit) (ls : List Lit) → is_in x (ls ++ l ∷ []) ≡ (same l x || is_in x ls)
is_in-push x l [] = ap (λ b. b || false) (same-swap x l)
is_in-push x l (k ∷ ls) = ap (λ b. same x k || b) (is_in-push x l ls) ∙ or_swap (same x k) (same l x) (is_in x ls)

pub marks_of_none : marks_of [] ≡ unmarked
marks_of_none = refl

pub marks_of_push : (ls : List Lit) (l : Lit) → marks_of (ls ++ l ∷ []) ≡ with_mark l (marks_of ls)
marks_of_push ls l = λ i x. is_in-push x l ls i

-- a literal more that isn't among them
pub no_twice_push : (ls : List Lit) (l : Lit) → no_twice ls ≡ true → is_in l ls ≡ false → no_twice (ls ++ l ∷ []) ≡ true
no_twice_push [] l t e = refl
no_twice_push (k ∷ ls) l t e =
    let p = or_parts (same l k) (is_in l ls) e in
    let s = and_parts (not (is_in k ls)) (no_twice ls) t in
    and_from (not (is_in k (ls ++ l ∷ []))) (no_twice (ls ++ l ∷ []))
    (not_from_false (is_in k (ls ++ l ∷ [])) (is_in-push k l ls ∙ or_from (same l k) (is_in k ls) p.0 (no_longer (is_in k ls) s.0)))
    (no_twice_push ls l s.1 p.1)

-- a literal that isn't marked is added and marked
pub added_once : (old new : Lit → Bool) (ls later : List Lit) (l : Lit) → no_twice ls ≡ true → old ≡ marks_of ls → old l ≡ false → later ≡ ls ++ l ∷ [] → new ≡ with_mark l old
    → (no_twice later ≡ true) × (new ≡ marks_of later)
added_once old new ls later l once same free more marks =
    let absent : is_in l ls ≡ false = sym (ap (λ f. f l) same) ∙ free in
    rw more (no_twice_push ls l once absent, marks ∙ (ap (with_mark l) same ∙ sym (marks_of_push ls l)))
