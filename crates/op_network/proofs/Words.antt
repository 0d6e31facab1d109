-- Words of a width: what wrapping gives, by natural numbers.
use Rattle.std.proofs.Common.{◌≡◌, ℕ, suc, ◌+◌, ◌-◌, ◌*◌, ◌/◌, ◌%◌, ◌^◌, ◌<◌, ◌≤◌, refl, ap, sym, ◌∙◌, arith, ℤ, pos, ◌+ℤ◌, ◌-ℤ◌, ◌≤ℤ◌, bit_and}
use Rattle.std.specs.Prelude.{negsuc}
use Rattle.std.proofs.lemmas.Int.{ints, int_rem_euclid_is}
use Rattle.std.proofs.lemmas.Nat.{pow_pos, pow-add, mod_below, one_shl, and_mask, div-add-mod'}
use Rattle.std.proofs.Math.Nat.{mod-add-mod, add-mul-mod_self_right, mod-eq_of_lt, le-mul_of_pos_right, pow-le-pow_right}
use Rattle.op_network.specs.Values.{IsWord, AreCongruent, wrap}

pub low_mask : (n width : ℕ) → width ≤ 32 → bit_and n ((1 * 2 ^ width) % 2 ^ 128 - 1) ≡ n % 2 ^ width
low_mask n width few = let short : width < 128 = omega arith in ap (λ m. bit_and n (m - 1)) (one_shl width 128 short) ∙ and_mask n width

pub twice_half : (width : ℕ) → 1 ≤ width → 2 ^ width ≡ 2 ^ (width - 1) * 2
twice_half width some = let e : width - 1 + 1 ≡ width = omega arith in ap (λ w. 2 ^ w) (sym e) ∙ pow-add 2 (width - 1) 1

pub half_within : (width : ℕ) → width ≤ 32 → 2 ^ (width - 1) ≤ 2 ^ 31
half_within width few = let below : width - 1 ≤ 31 = omega arith in let some : 0 < 2 = omega arith in pow-le-pow_right some below

-- a number that is natural once a multiple of 2 to the width is added
pub wrap_by : (width j n : ℕ) (x : ℤ) → x +ℤ pos (2 ^ (width - 1)) +ℤ pos (j * 2 ^ width) ≡ pos n → wrap width x ≡ pos (n % 2 ^ width) -ℤ pos (2 ^ (width - 1))
unfolding wrap
wrap_by width j n x is = ap (λ r. r -ℤ pos (2 ^ (width - 1))) (int_rem_euclid_is (x +ℤ pos (2 ^ (width - 1))) (pos (2 ^ width)) (2 ^ width) j n (pow_pos width) refl is)

-- what the code computes
pub wrap_raised : (width half n : ℕ) (x : ℤ) → width ≤ 32 → half ≡ 2 ^ (width - 1) → pos n ≡ x +ℤ pos half +ℤ pos (2 ^ 63) → wrap width x ≡ pos (n % 2 ^ width) -ℤ pos half
wrap_raised width half n x few is raised =
    let e : 63 - width + width ≡ 63 = omega arith in
    let multiple : 2 ^ (63 - width) * 2 ^ width ≡ 2 ^ 63 = sym (pow-add 2 (63 - width) width) ∙ ap (λ w. 2 ^ w) e in
    wrap_by width (2 ^ (63 - width)) n x (ap (λ k. x +ℤ pos (2 ^ (width - 1)) +ℤ pos k) multiple ∙ ap (λ h. x +ℤ pos h +ℤ pos (2 ^ 63)) (sym is) ∙ sym raised) ∙ ap (λ h. pos (n % 2 ^ width) -ℤ pos h) (sym is)

-- to take a natural number modulo 2 to the width first changes nothing
pub wrap_low : (width n : ℕ) → wrap width (pos (n % 2 ^ width)) ≡ wrap width (pos n)
unfolding wrap
wrap_low width n = ap (λ k. pos k -ℤ pos (2 ^ (width - 1))) (mod-add-mod n (2 ^ width) (2 ^ (width - 1)))

-- a multiple that raises a number to a natural one
record Raised (x : ℤ) (half modulus : ℕ) : Type 0 where
  times : ℕ
  sum : ℕ
  is : x +ℤ pos half +ℤ pos (times * modulus) ≡ pos sum

some_raised : (x : ℤ) (half modulus : ℕ) → 0 < modulus → Raised x half modulus
some_raised (pos a) half modulus some = record { times = 0; sum = a + half; is = omega (arith, ints) }
some_raised (negsuc a) half modulus some = let up : suc a ≤ suc a * modulus = le-mul_of_pos_right (suc a) some in record { times = suc a; sum = half + (suc a * modulus - suc a); is = omega (arith, ints) }

raised_of : (width : ℕ) (x : ℤ) → Raised x (2 ^ (width - 1)) (2 ^ width)
raised_of width x = some_raised x (2 ^ (width - 1)) (2 ^ width) (pow_pos width)

pub wrap_is_word : (width : ℕ) (x : ℤ) → 1 ≤ width → IsWord width (wrap width x)
wrap_is_word width x some =
    let r = raised_of width x in
    let is = wrap_by width r.times r.sum x r.is in
    let below : r.sum % 2 ^ width < 2 ^ width = mod_below r.sum (2 ^ width) (pow_pos width) in
    let twice = twice_half width some in
    (omega (arith, ints, is, below, twice), omega (arith, ints, is, below, twice))

pub wrap_congruent : (width : ℕ) (x : ℤ) → 1 ≤ width → AreCongruent (2 ^ width) x (wrap width x)
wrap_congruent width x some =
    let r = raised_of width x in
    let is = wrap_by width r.times r.sum x r.is in
    let whole = div-add-mod' r.sum (2 ^ width) in
    (r.times, r.sum / 2 ^ width, omega (arith, ints, is, whole, r.is))

natural_of : (z : ℤ) → pos 0 ≤ℤ z → (n : ℕ) × (z ≡ pos n)
natural_of (pos n) h = (n, refl)
natural_of (negsuc n) h = absurd (omega (arith, ints, h))

pub wrap_only : (width : ℕ) (x w : ℤ) → 1 ≤ width → IsWord width w → AreCongruent (2 ^ width) x w → w ≡ wrap width x
wrap_only width x w some (low, high) (a, b, same) =
    let r = raised_of width x in
    let is = wrap_by width r.times r.sum x r.is in
    let twice = twice_half width some in
    let from_zero : pos 0 ≤ℤ (w +ℤ pos (2 ^ (width - 1))) = omega (arith, ints, low) in
    let u = natural_of (w +ℤ pos (2 ^ (width - 1))) from_zero in
    let below : u.0 < 2 ^ width = omega (arith, ints, u.1, high, twice) in
    let equal : r.sum + a * 2 ^ width ≡ u.0 + (b + r.times) * 2 ^ width = omega (arith, ints, u.1, same, r.is) in
    let rest : r.sum % 2 ^ width ≡ u.0 = sym (add-mul-mod_self_right r.sum a (2 ^ width)) ∙ ap (λ k. k % 2 ^ width) equal ∙ add-mul-mod_self_right u.0 (b + r.times) (2 ^ width) ∙ mod-eq_of_lt below in
    omega (arith, ints, is, rest, u.1)
