-- The search for the bits of a choice.
use Rattle.std.proofs.Common.{◌≡◌, ℕ, suc, ◌+◌, ◌-◌, ◌^◌, ◌<◌, ◌≤◌, true, false, refl, sym, ap, ◌∙◌, arith}
use Rattle.std.specs.Prelude.{nat_le}
use Rattle.std.proofs.lemmas.Bool.Decides.{nat_tests}
use Rattle.unroll_cnf.specs.Sizes.{bits_from, choice_bits}

-- fewer bits than these are too few
pub record BitsSoFar (n bits : ℕ) : Type 0 where
  pub is : choice_bits n ≡ bits_from n bits (8 - bits)
  pub few : bits ≤ 8

pub bits_start : (n : ℕ) → BitsSoFar n 1
bits_start n = record { is = refl; few = omega arith }

pub bits_step : (n bits : ℕ) → BitsSoFar n bits → bits < 8 → 2 ^ bits < n → BitsSoFar n (bits + 1)
bits_step n bits s lt more =
    let e : 8 - bits ≡ suc (8 - (bits + 1)) = omega arith in
    let t : nat_le n (2 ^ bits) ≡ false = grind (arith, nat_tests) in
    record {
      is = s.is ∙ (ap (bits_from n bits) e ∙ rw t (ap (λ k. bits_from n k (8 - (bits + 1))) (omega arith)));
      few = omega arith;
    }

pub bits_found : (n bits : ℕ) → BitsSoFar n bits → bits < 8 → n ≤ 2 ^ bits → bits ≡ choice_bits n
bits_found n bits s lt le =
    let e : 8 - bits ≡ suc (8 - (bits + 1)) = omega arith in
    let t : nat_le n (2 ^ bits) ≡ true = grind (arith, nat_tests) in
    sym (s.is ∙ (ap (bits_from n bits) e ∙ rw t refl))

pub bits_most : (n bits : ℕ) → BitsSoFar n bits → 8 ≤ bits → bits ≡ choice_bits n
bits_most n bits s le =
    let e : 8 - bits ≡ 0 = omega arith in
    sym (s.is ∙ ap (bits_from n bits) e)
