-- The laws of the circuits of sums, differences and negations.
use Rattle.std.proofs.Common.{◌≡◌, ℕ, zero, suc, ◌+◌, ◌-◌, ◌*◌, ◌^◌, ◌%◌, ◌<◌, Bool, true, false, not, ◌&&◌, ◌||◌, cond, List, [], ◌∷◌, length, refl, sym, ap, ap₂, ◌∙◌, subst, arith}
use Rattle.std.specs.Prelude.{neg_ℤ, ◌+ℤ◌, ◌-ℤ◌}
use Rattle.std.proofs.Math.Nat.{pow-succ'}
use Rattle.cnf_form.specs.declared.lit.Lit.{Lit}
use Rattle.cnf_form.specs.Lits.{truth}
use Rattle.cnf_form.proofs.LitFacts.{truth-turned}
use Rattle.bit_blast.specs.Circuit.{yes, no}
use Rattle.bit_blast.specs.Meaning.{differ}
use Rattle.bit_blast.specs.Numbers.{unsigned, signed, wrap, bits, number}
use Rattle.bit_blast.specs.Words.{sum, inverted, nothing, add, subtract, negate}
use Rattle.bit_blast.proofs.Values.{Obeys}
use Rattle.bit_blast.proofs.Circuits.{truth-yes, truth-no}
use Rattle.bit_blast.proofs.Numbers

abbrev bit : Bool → ℕ
bit b = cond b 1 0

-- a full adder
full_adder : (a b c : Bool) → bit (differ (differ a b) c) + 2 * bit ((a && b) || (differ a b && c)) ≡ bit a + bit b + bit c
full_adder true true true = refl
full_adder true true false = refl
full_adder true false true = refl
full_adder true false false = refl
full_adder false true true = refl
full_adder false true false = refl
full_adder false false true = refl
full_adder false false false = refl

pub length-sum : (n : ℕ) (p q : List Lit) (c : Lit) → length p ≡ length q → length (sum n p q c).result ≡ length p
length-sum n [] q c e = refl
length-sum n (a ∷ p) [] c e = absurd (omega arith)
length-sum n (a ∷ p) (b ∷ q) c e = ap suc (length-sum _ p q _ (omega arith))

sum_step : (k m m2 u p q r c2 a b c : ℕ) → m2 ≡ 2 * m → u + k * m ≡ p + q + c2 → r + 2 * c2 ≡ a + b + c → (r + 2 * u) + k * m2 ≡ (a + 2 * p) + (b + 2 * q) + c
sum_step k m m2 u p q r c2 a b c e f g = rw e (omega arith)

-- The number of the sum and so many times 2 to the number of bits are the numbers and the carry.
pub sum_value : (v : ℕ → Bool) (n : ℕ) (p q : List Lit) (c : Lit) → length p ≡ length q → Obeys v n (sum n p q c).entries →
    (k : ℕ) × (unsigned (bits v (sum n p q c).result) + k * 2 ^ length p ≡ unsigned (bits v p) + unsigned (bits v q) + bit (truth v c))
sum_value v n [] [] c e o = (bit (truth v c), omega arith)
sum_value v n [] (b ∷ q) c e o = absurd (omega arith)
sum_value v n (a ∷ p) [] c e o = absurd (omega arith)
sum_value v n (a ∷ p) (b ∷ q) c e o =
    let n1 = suc n in
    let n2 = suc n1 in
    let n3 = suc n2 in
    let n4 = suc n3 in
    let r = sum_value v (suc n4) p q (yes n4) (omega arith) o.1.1.1.1.1 in
    let x : v n ≡ differ (truth v a) (truth v b) = o.0 in
    let result : truth v (yes n1) ≡ differ (differ (truth v a) (truth v b)) (truth v c) =
    truth-yes v n1 ∙ (o.1.0 ∙ ap (λ t. differ t (truth v c)) (truth-yes v n ∙ x)) in
    let carry : truth v (yes n4) ≡ ((truth v a && truth v b) || (differ (truth v a) (truth v b) && truth v c)) =
    truth-yes v n4 ∙ (o.1.1.1.1.0 ∙ ap₂ (λ s t. s || t) (truth-yes v n2 ∙ o.1.1.0) (truth-yes v n3 ∙ (o.1.1.1.0 ∙ ap (λ t. t && truth v c) (truth-yes v n ∙ x)))) in
    let f : bit (truth v (yes n1)) + 2 * bit (truth v (yes n4)) ≡ bit (truth v a) + bit (truth v b) + bit (truth v c) =
    rw (result, carry) (full_adder (truth v a) (truth v b) (truth v c)) in
    (r.0, sum_step r.0 (2 ^ length p) (2 ^ suc (length p)) _ _ _ (bit (truth v (yes n1))) (bit (truth v (yes n4))) (bit (truth v a)) (bit (truth v b)) (bit (truth v c)) (pow-succ' 2 (length p)) r.1 f)

-- ---- as numbers

pub length-bits : (v : ℕ → Bool) (a : List Lit) → length (bits v a) ≡ length a
length-bits v [] = refl
length-bits v (l ∷ a) = ap suc (length-bits v a)

pub word_below : (v : ℕ → Bool) (a : List Lit) → unsigned (bits v a) < 2 ^ length a
word_below v a = subst (λ w. unsigned (bits v a) < 2 ^ w) (length-bits v a) (Numbers.unsigned_below (bits v a))

-- a word stands for its residue, at its length
pub word_residue : (v : ℕ → Bool) (a : List Lit) (w : ℕ) → length a ≡ w → Numbers.IsResidue (2 ^ w) (unsigned (bits v a)) (number v a)
word_residue v a w e = subst (λ n. Numbers.IsResidue (2 ^ n) (unsigned (bits v a)) (number v a)) e (Numbers.residue_of (length a) (unsigned (bits v a)) (word_below v a))

pub number_is : (v : ℕ → Bool) (r : List Lit) (w x k : ℕ) → length r ≡ w → unsigned (bits v r) + k * 2 ^ w ≡ x → number v r ≡ signed w (x % 2 ^ w)
number_is v r w x k e f =
    let lt : unsigned (bits v r) < 2 ^ w = subst (λ n. unsigned (bits v r) < 2 ^ n) e (word_below v r) in
    ap₂ signed e (sym (Numbers.residue_is (2 ^ w) x (unsigned (bits v r)) k f lt))

pub truth-no_first : (v : ℕ → Bool) → v 0 ≡ true → truth v (no 0) ≡ false
truth-no_first v e = truth-no v 0 ∙ ap not e

pub truth-yes_first : (v : ℕ → Bool) → v 0 ≡ true → truth v (yes 0) ≡ true
truth-yes_first v e = truth-yes v 0 ∙ e

pub unsigned_nothing : (v : ℕ → Bool) (k : ℕ) → v 0 ≡ true → unsigned (bits v (nothing k)) ≡ 0
unsigned_nothing v zero e = refl
unsigned_nothing v (suc k) e = rw (truth-no_first v e, unsigned_nothing v k e) refl

pub length-inverted : (a : List Lit) → length (inverted a) ≡ length a
length-inverted [] = refl
length-inverted (l ∷ a) = ap suc (length-inverted a)

pub length-nothing : (k : ℕ) → length (nothing k) ≡ k
length-nothing zero = refl
length-nothing (suc k) = ap suc (length-nothing k)

one_of : (b : Bool) → bit (not b) + bit b ≡ 1
one_of true = refl
one_of false = refl

pub unsigned_inverted : (v : ℕ → Bool) (a : List Lit) → unsigned (bits v (inverted a)) + unsigned (bits v a) + 1 ≡ 2 ^ length a
unsigned_inverted v [] = refl
unsigned_inverted v (l ∷ a) = rw (truth-turned v l) (omega (arith, pow-succ' 2 (length a), unsigned_inverted v a, one_of (truth v l)))

pub add_number : (v : ℕ → Bool) (n : ℕ) (a b : List Lit) → v 0 ≡ true → length a ≡ length b → Obeys v n (add n a b).entries →
    number v (add n a b).result ≡ wrap (length a) (number v a +ℤ number v b)
add_number v n a b y e o =
    let s = sum_value v n a b (no 0) e o in
    let c = ap bit (truth-no_first v y) in
    number_is v (add n a b).result (length a) (unsigned (bits v a) + unsigned (bits v b)) s.0 (length-sum n a b (no 0) e) (omega (arith, s.1, c))
    ∙ sym (Numbers.wrap-add (length a) (unsigned (bits v a)) (unsigned (bits v b)) (number v a) (number v b) (word_residue v a (length a) refl) (word_residue v b (length a) (sym e)))

pub subtract_number : (v : ℕ → Bool) (n : ℕ) (a b : List Lit) → v 0 ≡ true → length a ≡ length b → Obeys v n (subtract n a b).entries →
    number v (subtract n a b).result ≡ wrap (length a) (number v a -ℤ number v b)
subtract_number v n a b y e o =
    let f : length a ≡ length (inverted b) = e ∙ sym (length-inverted b) in
    let s = sum_value v n a (inverted b) (yes 0) f o in
    let c = ap bit (truth-yes_first v y) in
    let i : unsigned (bits v (inverted b)) + unsigned (bits v b) + 1 ≡ 2 ^ length a = unsigned_inverted v b ∙ ap (λ w. 2 ^ w) (sym e) in
    let lt : unsigned (bits v b) < 2 ^ length a = omega arith in
    number_is v (subtract n a b).result (length a) (unsigned (bits v a) + (2 ^ length a - unsigned (bits v b))) s.0 (length-sum n a (inverted b) (yes 0) f) (omega (arith, s.1, c, i))
    ∙ sym (Numbers.wrap-sub (length a) (unsigned (bits v a)) (unsigned (bits v b)) (number v a) (number v b) lt (word_residue v a (length a) refl) (word_residue v b (length a) (sym e)))

pub negate_number : (v : ℕ → Bool) (n : ℕ) (a : List Lit) → v 0 ≡ true → Obeys v n (negate n a).entries →
    number v (negate n a).result ≡ wrap (length a) (neg_ℤ (number v a))
negate_number v n a y o =
    let f : length (nothing (length a)) ≡ length (inverted a) = length-nothing (length a) ∙ sym (length-inverted a) in
    let s = sum_value v n (nothing (length a)) (inverted a) (yes 0) f o in
    let c = ap bit (truth-yes_first v y) in
    let i : unsigned (bits v (inverted a)) + unsigned (bits v a) + 1 ≡ 2 ^ length a = unsigned_inverted v a in
    let z = unsigned_nothing v (length a) y in
    let lt : unsigned (bits v a) < 2 ^ length a = omega arith in
    let p = ap (λ w. s.0 * 2 ^ w) (length-nothing (length a)) in
    number_is v (negate n a).result (length a) (2 ^ length a - unsigned (bits v a)) s.0 (length-sum n (nothing (length a)) (inverted a) (yes 0) f ∙ length-nothing (length a)) (omega (arith, s.1, c, i, z, p))
    ∙ sym (Numbers.wrap-neg (length a) (unsigned (bits v a)) (number v a) lt (word_residue v a (length a) refl))
