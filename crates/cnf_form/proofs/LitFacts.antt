-- The laws of literals.
use Rattle.std.proofs.Common.{◌≡◌, ℕ, eqb, Bool, true, false, not, ◌&&◌, List, [], ◌∷◌, refl, sym, ap, ap₂, ◌∙◌, subst, ◌⊎◌, inl, inr, arith, eqb-true, eq-eqb, true≢false}
use Rattle.std.specs.Bool.{beq}
use Rattle.std.proofs.lemmas.Bool.{and_parts, or_cases, or_left, or_right, false≢true, cases_Bool}
use Rattle.std.proofs.lemmas.Bool.Decides.{nat_tests}
use Rattle.cnf_form.specs.declared.lit.Lit.{Lit}
use Rattle.cnf_form.specs.Lits.{same, turned, is_in, truth, holds}

beq-true : (a b : Bool) → beq a b ≡ true → a ≡ b
beq-true true true e = refl
beq-true false false e = refl
beq-true true false e = cc
beq-true false true e = cc

beq-refl : (a : Bool) → beq a a ≡ true
beq-refl true = refl
beq-refl false = refl

-- a test that doesn't pass
pub no_longer : (b : Bool) → not b ≡ true → b ≡ false
no_longer true e = cc
no_longer false e = refl

pub same-true : (a b : Lit) → same a b ≡ true → a ≡ b
unfolding same
same-true a b e =
    let p = and_parts (eqb a.var b.var) (beq a.positive b.positive) e in
    let v = eqb-true a.var b.var p.0 in
    let q = beq-true a.positive b.positive p.1 in
    λ i. record { var = v i; positive = q i }

pub same-refl : (a : Lit) → same a a ≡ true
unfolding same
same-refl a = rw (eq-eqb a.var a.var refl, beq-refl a.positive) refl

-- one literal, or two
pub same_cases : (a b : Lit) → ((same a b ≡ true) × (a ≡ b)) ⊎ ((same a b ≡ false) × (a ≡ b → ⊥))
same_cases a b =
    elim (cases_Bool (same a b)) [
      | inl e ↦ inl (e, same-true a b e)
      | inr e ↦ inr (e, λ q. true≢false (sym (same-refl a) ∙ (ap (same a) q ∙ e)))
    ]

eqb-swap : (m n : ℕ) → eqb m n ≡ eqb n m
eqb-swap m n = grind (arith, nat_tests)

beq-swap : (a b : Bool) → beq a b ≡ beq b a
beq-swap true true = refl
beq-swap false false = refl
beq-swap true false = refl
beq-swap false true = refl

pub same-swap : (a b : Lit) → same a b ≡ same b a
unfolding same
same-swap a b = ap₂ (λ x y. x && y) (eqb-swap a.var b.var) (beq-swap a.positive b.positive)

not-not : (b : Bool) → not (not b) ≡ b
not-not true = refl
not-not false = refl

pub turned-turned : (a : Lit) → turned (turned a) ≡ a
unfolding turned
turned-turned a = λ i. record { var = a.var; positive = not-not a.positive i }

pub turned_var : (a : Lit) → (turned a).var ≡ a.var
unfolding turned
turned_var a = refl

not_self : (b : Bool) → not b ≡ b → ⊥
not_self true e = cc
not_self false e = cc

pub turned_ne : (a : Lit) → turned a ≡ a → ⊥
unfolding turned
turned_ne a e = not_self a.positive (ap (λ (x : Lit). x.positive) e)

two_ways : (a b : Bool) → (a ≡ b) ⊎ (not a ≡ b)
two_ways true true = inl refl
two_ways false false = inl refl
two_ways true false = inr refl
two_ways false true = inr refl

-- two literals of one variable are one, or the other turned
pub of_one_var : (a b : Lit) → a.var ≡ b.var → (a ≡ b) ⊎ (turned a ≡ b)
unfolding turned
of_one_var a b v = elim (two_ways a.positive b.positive) [
  | inl e ↦ inl (λ i. record { var = v i; positive = e i })
  | inr e ↦ inr (λ i. record { var = v i; positive = e i })
]

-- ---- in a list

pub is_in-head : (x l : Lit) (ls : List Lit) → x ≡ l → is_in x (l ∷ ls) ≡ true
is_in-head x l ls e = or_left (same x l) (is_in x ls) (subst (λ (y : Lit). same x y ≡ true) e (same-refl x))

pub is_in-tail : (x l : Lit) (ls : List Lit) → is_in x ls ≡ true → is_in x (l ∷ ls) ≡ true
is_in-tail x l ls e = or_right (same x l) (is_in x ls) e

pub is_in_cases : (x l : Lit) (ls : List Lit) → is_in x (l ∷ ls) ≡ true → (x ≡ l) ⊎ (is_in x ls ≡ true)
is_in_cases x l ls e = elim (or_cases (same x l) (is_in x ls) e) [ inl s ↦ inl (same-true x l s) | inr s ↦ inr s ]

-- ---- truth

truth_not : (t b : Bool) → beq t (not b) ≡ not (beq t b)
truth_not true true = refl
truth_not true false = refl
truth_not false true = refl
truth_not false false = refl

pub truth-turned : (v : ℕ → Bool) (l : Lit) → truth v (turned l) ≡ not (truth v l)
unfolding truth turned
truth-turned v l = truth_not (v l.var) l.positive

-- a clause that is true has a true literal
pub holds_by : (v : ℕ → Bool) (c : List Lit) (x : Lit) → is_in x c ≡ true → truth v x ≡ true → holds v c ≡ true
holds_by v [] x i t = absurd (false≢true i)
holds_by v (l ∷ ls) x i t = elim (is_in_cases x l ls i) [
  | inl e ↦ or_left (truth v l) (holds v ls) (subst (λ (y : Lit). truth v y ≡ true) e t)
  | inr h ↦ or_right (truth v l) (holds v ls) (holds_by v ls x h t)
]
