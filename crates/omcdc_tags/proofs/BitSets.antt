-- Bits of rows, and rows of tables.
use Rattle.std.proofs.Common.{◌≡◌, ◌∙◌, ◌⊎◌, inl, inr, ◌↔◌, ℕ, zero, suc, Bool, true, false, ◌||◌, List, [], ◌∷◌, refl, sym, ap, arith, length}
use Rattle.cov_base.specs.BitRow.{either}
use Rattle.omcdc_tags.specs.Rows.{Adds}
use Rattle.omcdc_tags.specs.Tags.{has_bit}

either_bit : (a b : List Bool) (k : ℕ) → length a ≡ length b → has_bit (either a b) k ≡ (has_bit a k || has_bit b k)
either_bit [] [] k same = refl
either_bit [] (y ∷ b) k same = absurd (omega (arith, same))
either_bit (x ∷ a) [] k same = absurd (omega (arith, same))
either_bit (x ∷ a) (y ∷ b) zero same = refl
either_bit (x ∷ a) (y ∷ b) (suc k) same = either_bit a b k (omega (arith, same))

or_split : (x y : Bool) → (x || y) ≡ true → (x ≡ true) ⊎ (y ≡ true)
or_split true y h = inl refl
or_split false y h = inr h

or_join : (x y : Bool) → (x ≡ true) ⊎ (y ≡ true) → (x || y) ≡ true
or_join true y h = refl
or_join false y (inl h) = grind (arith, h)
or_join false y (inr h) = h

-- a bit of two rows joined
pub joined_bit : (a b : List Bool) (k : ℕ) → length a ≡ length b → (has_bit (either a b) k ≡ true) ↔ ((has_bit a k ≡ true) ⊎ (has_bit b k ≡ true))
joined_bit a b k same = (
  λ h. or_split (has_bit a k) (has_bit b k) (sym (either_bit a b k same) ∙ h),
  λ h. either_bit a b k same ∙ or_join (has_bit a k) (has_bit b k) h,
)

either_length : (a b : List Bool) → length a ≡ length b → length (either a b) ≡ length a
either_length [] [] same = refl
either_length [] (y ∷ b) same = absurd (omega (arith, same))
either_length (x ∷ a) [] same = absurd (omega (arith, same))
either_length (x ∷ a) (y ∷ b) same = ap suc (either_length a b (omega (arith, same)))

pub joined_length : (a b : List Bool) → length a ≡ length b → length (either a b) ≡ length a
joined_length a b same = either_length a b same

pub adds_row : (a b : List Bool) → length a ≡ length b → Adds a (either a b) (λ k. has_bit b k ≡ true)
adds_row a b same = record { size = either_length a b same; each = λ k. joined_bit a b k same }
