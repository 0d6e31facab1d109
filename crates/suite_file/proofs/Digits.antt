-- Digits, one by one.
use Rattle.std.proofs.Common.{◌≡◌, ◌<◌, ◌≤◌, ◌+◌, ◌-◌, ◌*◌, ◌∙◌, ℕ, Bool, true, false, ◌&&◌, cond, nat_le, [], ◌∷◌, length, drop, Option, Some, None, refl, sym, subst, inl, inr, true≢false, arith}
use Rattle.std.proofs.lemmas.Bool.Decides.{leb_tells}
use Rattle.std.specs.List.{list_all}
use Rattle.std.proofs.Common.{slice_index_or}
use Rattle.suite_file.specs.Records.{Text}
use Rattle.suite_file.proofs.Places.{at_index}
use Rattle.suite_file.specs.Values.{is_digit, number_from, next_number, numeral}
use Rattle.suite_file.specs.declared.limits.TheConstants.{MOST_ABSOLUTE}

-- the number of digits that follow those of n, within `MOST_ABSOLUTE`
abbrev pub bounded : ℕ → Text → Option ℕ
bounded n digits = cond (list_all is_digit digits && nat_le (number_from n digits) MOST_ABSOLUTE) (Some (number_from n digits)) None

-- digits never make a number smaller
grows : (n : ℕ) (digits : Text) → n ≤ number_from n digits
grows n [] = omega arith
grows n (d ∷ digits) = omega (arith, grows (n * 10 + (d - 48)) digits)

pub within : (a b : ℕ) → a ≤ b → nat_le a b ≡ true
within a b h = elim (leb_tells a b) [
  | inl t ↦ t.0
  | inr t ↦ absurd (omega (arith, h, t.1))
]

pub beyond : (a b : ℕ) → b < a → nat_le a b ≡ false
beyond a b h = elim (leb_tells a b) [
  | inl t ↦ absurd (omega (arith, h, t.1))
  | inr t ↦ t.0
]

pub is_within : (a b : ℕ) → nat_le a b ≡ true → a ≤ b
is_within a b h = elim (leb_tells a b) [
  | inl t ↦ t.1
  | inr t ↦ absurd (true≢false (sym h ∙ t.0))
]

pub is_beyond : (a b : ℕ) → nat_le a b ≡ false → b < a
is_beyond a b h = elim (leb_tells a b) [
  | inl t ↦ absurd (true≢false (sym t.0 ∙ h))
  | inr t ↦ t.1
]

and_false : (b : Bool) → (b && false) ≡ false
and_false true = refl
and_false false = refl

none_if : (b : Bool) (n : ℕ) → cond (b && false) (Some n) None ≡ None
none_if true n = refl
none_if false n = refl

pub start : (digits : Text) → 1 ≤ length digits → numeral digits ≡ bounded 0 digits
start [] h = absurd (omega arith)
start (d ∷ digits) h = refl

pub end : (n : ℕ) → n ≤ MOST_ABSOLUTE → bounded n [] ≡ Some n
end n h = rw (within n MOST_ABSOLUTE h) refl

pub digit_some : (n d m : ℕ) (digits : Text) → next_number n d ≡ Some m → (bounded n (d ∷ digits) ≡ bounded m digits) × (m ≤ MOST_ABSOLUTE)
digit_some n d m digits h = go (is_digit d) (nat_le (n * 10 + (d - 48)) MOST_ABSOLUTE) refl refl h
  where
    go : (x y : Bool) → is_digit d ≡ x → nat_le (n * 10 + (d - 48)) MOST_ABSOLUTE ≡ y → cond (x && y) (Some (n * 10 + (d - 48))) None ≡ Some m → (bounded n (d ∷ digits) ≡ bounded m digits) × (m ≤ MOST_ABSOLUTE)
    go true true hx hy e = let q : n * 10 + (d - 48) ≡ m = cc e in (rw (hx, q) refl, subst (λ t. t ≤ MOST_ABSOLUTE) q (is_within _ _ hy))
    go true false hx hy e = absurd (cc e)
    go false y hx hy e = absurd (cc e)

pub digit_none : (n d : ℕ) (digits : Text) → next_number n d ≡ None → bounded n (d ∷ digits) ≡ None
digit_none n d digits h = go (is_digit d) (nat_le (n * 10 + (d - 48)) MOST_ABSOLUTE) refl refl h
  where
    go : (x y : Bool) → is_digit d ≡ x → nat_le (n * 10 + (d - 48)) MOST_ABSOLUTE ≡ y → cond (x && y) (Some (n * 10 + (d - 48))) None ≡ None → bounded n (d ∷ digits) ≡ None
    go true true hx hy e = absurd (cc e)
    go true false hx hy e = subst (λ t. cond (list_all is_digit (d ∷ digits) && t) (Some (number_from n (d ∷ digits))) None ≡ None) (sym (beyond (number_from (n * 10 + (d - 48)) digits) MOST_ABSOLUTE (omega (arith, is_beyond (n * 10 + (d - 48)) MOST_ABSOLUTE hy, grows (n * 10 + (d - 48)) digits)))) (none_if (list_all is_digit (d ∷ digits)) (number_from n (d ∷ digits)))
    go false y hx hy e = rw hx refl

pub digit_ends : (n i : ℕ) (digits : Text) → i < length digits → None ≡ next_number n (slice_index_or digits i 0) → bounded n (drop i digits) ≡ None
digit_ends n i digits h e = rw (at_index digits i 0 h) (digit_none n (slice_index_or digits i 0) (drop (i + 1) digits) (sym e))
