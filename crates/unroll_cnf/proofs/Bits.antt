-- The bits of values, and the values of bits.
use Rattle.std.proofs.Common.{◌≡◌, ℕ, zero, suc, ◌+◌, ◌-◌, ◌*◌, ◌/◌, ◌%◌, ◌^◌, ◌<◌, ◌≤◌, nat_lt, Bool, true, false, not, cond, List, [], ◌∷◌, length, map, refl, sym, ap, ap₂, ◌∙◌, subst, inl, inr, arith, nat_eq}
use Rattle.std.specs.Prelude.{ℤ, pos, negsuc, ◌+ℤ◌, ◌-ℤ◌, nat_le}
use Rattle.std.specs.Int.{int_rem_euclid}
use Rattle.std.specs.Int.RustNames.{unsigned_abs}
use Rattle.std.proofs.lemmas.Int.{ints, int_rem_euclid_is}
use Rattle.std.proofs.lemmas.Bool.{cases_Bool}
use Rattle.std.proofs.lemmas.Bool.Decides.{nat_tests}
use Rattle.std.proofs.lemmas.Nat.{mod_below, pow_pos}
use Rattle.std.proofs.Math.Nat.{pow-succ', mod-add-mod}
use Rattle.cnf_form.specs.declared.lit.Lit.{Lit}
use Rattle.cnf_form.specs.Lits.{truth}
use Rattle.cnf_form.proofs.LitFacts.{truth-turned}
use Rattle.op_network.specs.Values.{IsWord}
use Rattle.op_network.specs.Values as network
use Rattle.op_network.proofs.Words.{twice_half, wrap_by}
use Rattle.bit_blast.specs.Words.{inverted}
use Rattle.bit_blast.specs.Numbers.{unsigned, signed, wrap, bits, number}
use Rattle.bit_blast.proofs.Circuits.{truth-yes, truth-no}
use Rattle.bit_blast.proofs.Numbers.{residue_is, wrap_of}
use Rattle.bit_blast.proofs.Sums.{length-bits}
use Rattle.unroll_cnf.specs.Sizes.{bits_from, choice_bits}
use Rattle.unroll_cnf.specs.Values.{digits, constant, first_bit}
use Rattle.unroll_cnf.specs.Unrolled.{only}

-- ---- constants

truth-constant : (v : ℕ → Bool) (b : Bool) → v 0 ≡ true → truth v (constant b) ≡ b
truth-constant v true y = truth-yes v 0 ∙ y
truth-constant v false y = truth-no v 0 ∙ ap not y

pub bits-constants : (v : ℕ → Bool) (bs : List Bool) → v 0 ≡ true → bits v (map constant bs) ≡ bs
bits-constants v [] y = refl
bits-constants v (b ∷ bs) y = ap₂ (λ (x : Bool) (z : List Bool). x ∷ z) (truth-constant v b y) (bits-constants v bs y)

pub length-constants : (bs : List Bool) → length (map constant bs) ≡ length bs
length-constants [] = refl
length-constants (b ∷ bs) = ap suc (length-constants bs)

-- ---- digits

pub length-digits : (w r : ℕ) → length (digits w r) ≡ w
length-digits zero r = refl
length-digits (suc w) r = ap suc (length-digits w (r / 2))

odd_bit : (r : ℕ) → cond (nat_eq (r % 2) 1) 1 0 ≡ r % 2
odd_bit r = elim (cases_Bool (nat_eq (r % 2) 1)) [
  | inl e ↦ rw e (grind (arith, nat_tests))
  | inr e ↦ rw e (let k : (r % 2 ≡ 1) → ⊥ = grind (arith, nat_tests) in omega arith)
]

pub unsigned-digits : (w r : ℕ) → r < 2 ^ w → unsigned (digits w r) ≡ r
unsigned-digits zero r lt = omega arith
unsigned-digits (suc w) r lt = omega (arith, odd_bit r, unsigned-digits w (r / 2) (omega (arith, pow-succ' 2 w)))

-- bits of one length that are one number are the same
pub unsigned_one : (xs ys : List Bool) → length xs ≡ length ys → unsigned xs ≡ unsigned ys → xs ≡ ys
unsigned_one [] [] l e = refl
unsigned_one [] (y ∷ ys) l e = absurd (omega arith)
unsigned_one (x ∷ xs) [] l e = absurd (omega arith)
unsigned_one (true ∷ xs) (true ∷ ys) l e = ap (λ (zs : List Bool). true ∷ zs) (unsigned_one xs ys (omega arith) (omega arith))
unsigned_one (false ∷ xs) (false ∷ ys) l e = ap (λ (zs : List Bool). false ∷ zs) (unsigned_one xs ys (omega arith) (omega arith))
unsigned_one (true ∷ xs) (false ∷ ys) l e = absurd (omega arith)
unsigned_one (false ∷ xs) (true ∷ ys) l e = absurd (omega arith)

bits_enough : (n from more : ℕ) → n ≤ 2 ^ (from + more) → n ≤ 2 ^ bits_from n from more
bits_enough n from zero le = subst (λ x. n ≤ 2 ^ x) (omega arith) le
bits_enough n from (suc more) le = elim (cases_Bool (nat_le n (2 ^ from))) [
  | inl e ↦ rw e (grind (arith, nat_tests))
  | inr e ↦ rw e (bits_enough n (suc from) more (subst (λ x. n ≤ 2 ^ x) (omega arith) le))
]

-- the bits of a choice have a number for each enumerator
pub choice_fits : (n : ℕ) → n ≤ 256 → n ≤ 2 ^ choice_bits n
choice_fits n le = bits_enough n 1 7 le

-- ---- words

-- the number of a width that a residue stands for, shifted up by half of the numbers
signed_is : (w h r : ℕ) → 2 ^ w ≡ h * 2 → r < 2 ^ w → signed w r ≡ pos ((r + h) % 2 ^ w) -ℤ pos h
unfolding signed
signed_is w h r e lt = elim (cases_Bool (nat_lt (2 * r) (2 ^ w))) [
  | inl t ↦
      let low : 2 * r < 2 ^ w = grind (arith, nat_tests) in
      rw t (omega (arith, ints, residue_is (2 ^ w) (r + h) (r + h) 0 (omega arith) (omega arith)))
  | inr t ↦
      let high : 2 ^ w ≤ 2 * r = grind (arith, nat_tests) in
      rw t (omega (arith, ints, residue_is (2 ^ w) (r + h) (r - h) 1 (omega arith) (omega arith)))
]

raise : (x : ℤ) (m : ℕ) → 0 < m → (k : ℕ) × (n : ℕ) × (x +ℤ pos (k * m) ≡ pos n)
raise (pos a) m lt = (0, a, omega (arith, ints))
raise (negsuc a) m lt = (suc a, suc a * m - suc a, more m lt)
  where
    more : (m : ℕ) → 0 < m → negsuc a +ℤ pos (suc a * m) ≡ pos (suc a * m - suc a)
    more zero lt = absurd (omega arith)
    more (suc m) lt = omega (arith, ints)

-- both ways to wrap a number are one
pub wrap_same : (w : ℕ) (x : ℤ) → 1 ≤ w → wrap w x ≡ network.wrap w x
wrap_same w x some =
    let h = 2 ^ (w - 1) in
    let p = raise x (2 ^ w) (pow_pos w) in
    let e : x +ℤ pos h +ℤ pos (p.0 * 2 ^ w) ≡ pos (p.1 + h) = omega (arith, ints, p.2) in
    wrap_of w x p.0 p.1 p.2
    ∙ (signed_is w h (p.1 % 2 ^ w) (twice_half w some) (mod_below p.1 (2 ^ w) (pow_pos w))
    ∙ (ap (λ k. pos k -ℤ pos h) (mod-add-mod p.1 (2 ^ w) h) ∙ sym (wrap_by w p.0 (p.1 + h) x e)))

-- a word of a width is the number of a residue
pub word_residue : (w : ℕ) (z : ℤ) → 1 ≤ w → IsWord w z → (r : ℕ) × (r < 2 ^ w) × (z ≡ signed w r)
unfolding signed
word_residue w (pos a) some is =
    let twice = twice_half w some in
    let low : 2 * a < 2 ^ w = omega (arith, ints, is.1) in
    let t : nat_lt (2 * a) (2 ^ w) ≡ true = grind (arith, nat_tests) in
    (a, omega (arith, ints, is.1), rw t refl)
word_residue w (negsuc a) some is =
    let twice = twice_half w some in
    let small : suc a ≤ 2 ^ (w - 1) = omega (arith, ints, is.0) in
    let high : 2 ^ w ≤ 2 * (2 ^ w - suc a) = omega arith in
    let t : nat_lt (2 * (2 ^ w - suc a)) (2 ^ w) ≡ false = grind (arith, nat_tests) in
    (2 ^ w - suc a, omega arith, rw t (omega (arith, ints)))

pub residue-signed : (w r : ℕ) → r < 2 ^ w → unsigned_abs (int_rem_euclid (signed w r) (pos (2 ^ w))) ≡ r
unfolding signed
residue-signed w r lt = elim (cases_Bool (nat_lt (2 * r) (2 ^ w))) [
  | inl t ↦ rw t (ap unsigned_abs (int_rem_euclid_is (pos r) (pos (2 ^ w)) (2 ^ w) 0 r (omega arith) refl (omega (arith, ints))) ∙ residue_is (2 ^ w) r r 0 (omega arith) lt)
  | inr t ↦ rw t (ap unsigned_abs (int_rem_euclid_is (pos r -ℤ pos (2 ^ w)) (pos (2 ^ w)) (2 ^ w) 1 r (omega arith) refl (omega (arith, ints))) ∙ residue_is (2 ^ w) r r 0 (omega arith) lt)
]

-- residues that stand for one number are the same
pub signed_one : (w r s : ℕ) → r < 2 ^ w → s < 2 ^ w → signed w r ≡ signed w s → r ≡ s
signed_one w r s l k e =
    sym (residue-signed w r l) ∙ (ap (λ z. unsigned_abs (int_rem_euclid z (pos (2 ^ w)))) e ∙ residue-signed w s k)

-- ---- words of literals

pub only_value : (v : ℕ → Bool) (a : List Lit) → length a ≡ 1 → truth v (only a) ≡ first_bit (bits v a)
only_value v [] e = absurd (omega arith)
only_value v (l ∷ a) e = refl

pub not_value : (v : ℕ → Bool) (a : List Lit) → length a ≡ 1 → first_bit (bits v (inverted a)) ≡ not (first_bit (bits v a))
not_value v [] e = absurd (omega arith)
not_value v (l ∷ a) e = truth-turned v l

pub word_value : (v : ℕ → Bool) (a : List Lit) → signed (length (bits v a)) (unsigned (bits v a)) ≡ number v a
word_value v a = ap (λ w. signed w (unsigned (bits v a))) (length-bits v a)
