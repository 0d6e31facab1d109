-- What the literal or the word that a call answers is, in each assignment that satisfies the formula.
use Rattle.std.specs.Prelude.{◌≡◌, ◌↔◌, ℕ, Bool, true, ◌&&◌, ◌||◌, cond, List, length, ◌+ℤ◌, ◌-ℤ◌, ◌*ℤ◌, neg_ℤ, int_lt}
use Rattle.cnf_form.specs.declared.lit.Lit.{Lit}
use Rattle.cnf_form.specs.Lits.{truth}
use Rattle.cnf_form.specs.Shape.{Shape, Satisfies}
use Rattle.bit_blast.specs.Meaning.{differ}
use Rattle.bit_blast.specs.Numbers.{bits, number, wrap}

-- ---- literals

-- it is true
abbrev pub IsTrueIn : Shape → Lit → Type 0
IsTrueIn f l = (v : ℕ → Bool) → Satisfies v f → truth v l ≡ true

-- it is true where both are
abbrev pub IsBoth : Shape → Lit → Lit → Lit → Type 0
IsBoth f a b l = (v : ℕ → Bool) → Satisfies v f → truth v l ≡ (truth v a && truth v b)

-- it is true where one of them is, or both
abbrev pub IsEither : Shape → Lit → Lit → Lit → Type 0
IsEither f a b l = (v : ℕ → Bool) → Satisfies v f → truth v l ≡ (truth v a || truth v b)

-- it is true where just one of them is
abbrev pub IsOneOf : Shape → Lit → Lit → Lit → Type 0
IsOneOf f a b l = (v : ℕ → Bool) → Satisfies v f → truth v l ≡ differ (truth v a) (truth v b)

-- it is true where the words have the same bits
abbrev pub IsEquality : Shape → List Lit → List Lit → Lit → Type 0
IsEquality f a b l =
    (v : ℕ → Bool) → Satisfies v f → (truth v l ≡ true) ↔ (bits v a ≡ bits v b)

-- it is true where the first number is less than the second
abbrev pub IsOrder : Shape → List Lit → List Lit → Lit → Type 0
IsOrder f a b l =
    (v : ℕ → Bool) → Satisfies v f → truth v l ≡ int_lt (number v a) (number v b)

-- ---- words

-- it is the first word where the literal is true, else the second
abbrev pub IsChoice : Shape → Lit → List Lit → List Lit → List Lit → Type 0
IsChoice f c a b w =
    (v : ℕ → Bool) → Satisfies v f → bits v w ≡ cond (truth v c) (bits v a) (bits v b)

-- it is the sum, the difference, the product, or the negation, wrapped to the bits of the words
abbrev pub IsSum : Shape → List Lit → List Lit → List Lit → Type 0
IsSum f a b w =
    (v : ℕ → Bool) → Satisfies v f → number v w ≡ wrap (length a) (number v a +ℤ number v b)

abbrev pub IsDifference : Shape → List Lit → List Lit → List Lit → Type 0
IsDifference f a b w =
    (v : ℕ → Bool) → Satisfies v f → number v w ≡ wrap (length a) (number v a -ℤ number v b)

abbrev pub IsProduct : Shape → List Lit → List Lit → List Lit → Type 0
IsProduct f a b w =
    (v : ℕ → Bool) → Satisfies v f → number v w ≡ wrap (length a) (number v a *ℤ number v b)

abbrev pub IsNegation : Shape → List Lit → List Lit → Type 0
IsNegation f a w =
    (v : ℕ → Bool) → Satisfies v f → number v w ≡ wrap (length a) (neg_ℤ (number v a))
