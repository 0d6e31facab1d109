-- The law of the circuit of products.
use Rattle.std.proofs.Common.{◌≡◌, ℕ, zero, suc, ◌+◌, ◌-◌, ◌*◌, ◌^◌, ◌≤◌, Bool, true, false, ◌&&◌, cond, List, [], ◌∷◌, ◌++◌, length, take, refl, sym, ap, ◌∙◌, subst, arith, length-append, length-take, pow-add}
use Rattle.std.specs.Prelude.{◌*ℤ◌}
use Rattle.std.proofs.Math.Nat.{pow-succ'}
use Rattle.cnf_form.specs.declared.lit.Lit.{Lit}
use Rattle.cnf_form.specs.Lits.{truth}
use Rattle.bit_blast.specs.Circuit.{yes, no, after}
use Rattle.bit_blast.specs.Numbers.{unsigned, wrap, bits, number}
use Rattle.bit_blast.specs.Words.{sum, nothing, masked, rows, multiply}
use Rattle.bit_blast.proofs.Values.{Obeys}
use Rattle.bit_blast.proofs.Circuits.{truth-yes, obeys_parts}
use Rattle.bit_blast.proofs.Numbers
use Rattle.bit_blast.proofs.Sums

abbrev bit : Bool → ℕ
bit b = cond b 1 0

pub length-masked : (n : ℕ) (p : List Lit) (b : Lit) → length (masked n p b).result ≡ length p
length-masked n [] b = refl
length-masked n (a ∷ p) b = ap suc (length-masked (suc n) p b)

masked_bit : (x y : Bool) → bit (x && y) ≡ bit y * bit x
masked_bit true true = refl
masked_bit true false = refl
masked_bit false true = refl
masked_bit false false = refl

pub masked_value : (v : ℕ → Bool) (n : ℕ) (p : List Lit) (b : Lit) → Obeys v n (masked n p b).entries → unsigned (bits v (masked n p b).result) ≡ bit (truth v b) * unsigned (bits v p)
masked_value v n [] b o = omega arith
masked_value v n (a ∷ p) b o =
    let e : bit (truth v (yes n)) ≡ bit (truth v b) * bit (truth v a) = ap bit (truth-yes v n ∙ o.0) ∙ masked_bit (truth v a) (truth v b) in
    omega (arith, e, masked_value v (suc n) p b o.1)

-- the front of a word
front_value : (v : ℕ → Bool) (k : ℕ) (a : List Lit) → k ≤ length a → (d : ℕ) × (unsigned (bits v a) ≡ unsigned (bits v (take k a)) + d * 2 ^ k)
front_value v zero a le = (unsigned (bits v a), omega arith)
front_value v (suc k) [] le = absurd (omega arith)
front_value v (suc k) (l ∷ a) le =
    let r = front_value v k a (omega arith) in
    (r.0, go r.0 (2 ^ k) (2 ^ suc k) _ _ (bit (truth v l)) (pow-succ' 2 k) r.1)
  where
    go : (d m m2 u t b : ℕ) → m2 ≡ 2 * m → u ≡ t + d * m → b + 2 * u ≡ (b + 2 * t) + d * m2
    go d m m2 u t b e f = rw e (omega arith)

shifted_value : (v : ℕ → Bool) (s : ℕ) (a : List Lit) → v 0 ≡ true → unsigned (bits v (nothing s ++ a)) ≡ 2 ^ s * unsigned (bits v a)
shifted_value v zero a y = omega arith
shifted_value v (suc s) a y = rw (Sums.truth-no_first v y, shifted_value v s a y, pow-succ' 2 s) (omega arith)

-- one row of a product: t is the front of the first word at the row, d the rest of it
row_step : (res k1 k2 m r total t d u p2 bits b : ℕ) → total + k1 * m ≡ r + p2 * (b * t) + 0 → res + k2 * m ≡ total + (2 * p2) * bits * u → p2 * u ≡ p2 * t + d * m → res + (k1 + k2 + b * d) * m ≡ r + p2 * (b + 2 * bits) * u
row_step res k1 k2 m r total t d u p2 bits b e f g = omega (arith, ap (λ x. b * x) g, e, f)

multiplied : (p q w u t d : ℕ) → p * q ≡ w → u ≡ t + d * q → p * u ≡ p * t + d * w
multiplied p q w u t d e f = rw (f, ← e) (omega arith)

pub rows_value : (v : ℕ → Bool) (n : ℕ) (a : List Lit) (s : ℕ) (q r : List Lit) → v 0 ≡ true → length r ≡ length a → s + length q ≤ length a → Obeys v n (rows n a s q r).entries →
    (k : ℕ) × (unsigned (bits v (rows n a s q r).result) + k * 2 ^ length a ≡ unsigned (bits v r) + 2 ^ s * unsigned (bits v q) * unsigned (bits v a))
rows_value v n a s [] r y e le o = (0, omega arith)
rows_value v n a s (b ∷ q) r y e le o =
    let front = take (length a - s) a in
    let row = masked n front b in
    let m = after n row.entries in
    let total = sum m r (nothing s ++ row.result) (no 0) in
    let o1 = obeys_parts v n row.entries (total.entries ++ (rows (after m total.entries) a (suc s) q total.result).entries) o in
    let o2 = obeys_parts v m total.entries (rows (after m total.entries) a (suc s) q total.result).entries o1.1 in
    let front_length : length front ≡ length a - s = omega (arith, length-take (length a - s) a) in
    let size : length r ≡ length (nothing s ++ row.result) =
    omega (arith, length-append (nothing s) row.result, Sums.length-nothing s, length-masked n front b, front_length) in
    let added = Sums.sum_value v m r (nothing s ++ row.result) (no 0) size o2.0 in
    let masked_row = masked_value v n front b o1.0 in
    let shifted = shifted_value v s row.result y in
    let f = front_value v (length a - s) a (omega arith) in
    let total_length : length total.result ≡ length a = Sums.length-sum m r (nothing s ++ row.result) (no 0) size ∙ e in
    let rest = rows_value v (after m total.entries) a (suc s) q total.result y total_length (omega arith) o2.1 in
    let sum_is : unsigned (bits v total.result) + added.0 * 2 ^ length a ≡ unsigned (bits v r) + 2 ^ s * (bit (truth v b) * unsigned (bits v front)) + 0 =
    subst (λ w. unsigned (bits v total.result) + added.0 * 2 ^ w ≡ unsigned (bits v r) + 2 ^ s * (bit (truth v b) * unsigned (bits v front)) + 0) e
    (added.1 ∙ rw (shifted, masked_row, Sums.truth-no_first v y) refl) in
    let rest_is : unsigned (bits v (rows (after m total.entries) a (suc s) q total.result).result) + rest.0 * 2 ^ length a ≡ unsigned (bits v total.result) + (2 * 2 ^ s) * unsigned (bits v q) * unsigned (bits v a) =
    rest.1 ∙ ap (λ x. unsigned (bits v total.result) + x * unsigned (bits v q) * unsigned (bits v a)) (pow-succ' 2 s) in
    let power : 2 ^ s * 2 ^ (length a - s) ≡ 2 ^ length a = sym (pow-add 2 s (length a - s)) ∙ ap (λ x. 2 ^ x) (omega arith) in
    let front_is : 2 ^ s * unsigned (bits v a) ≡ 2 ^ s * unsigned (bits v front) + f.0 * 2 ^ length a =
    multiplied (2 ^ s) (2 ^ (length a - s)) (2 ^ length a) (unsigned (bits v a)) (unsigned (bits v front)) f.0 power f.1 in (
      added.0 + rest.0 + bit (truth v b) * f.0,
      row_step _ added.0 rest.0 (2 ^ length a) (unsigned (bits v r)) (unsigned (bits v total.result)) (unsigned (bits v front)) f.0 (unsigned (bits v a)) (2 ^ s) (unsigned (bits v q)) (bit (truth v b)) sum_is rest_is front_is,
    )

pub length-rows : (n : ℕ) (a : List Lit) (s : ℕ) (q r : List Lit) → length r ≡ length a → s + length q ≤ length a → length (rows n a s q r).result ≡ length a
length-rows n a s [] r e le = e
length-rows n a s (b ∷ q) r e le =
    let front = take (length a - s) a in
    let row = masked n front b in
    let m = after n row.entries in
    let total = sum m r (nothing s ++ row.result) (no 0) in
    let front_length : length front ≡ length a - s = omega (arith, length-take (length a - s) a) in
    let size : length r ≡ length (nothing s ++ row.result) =
    omega (arith, length-append (nothing s) row.result, Sums.length-nothing s, length-masked n front b, front_length) in
    length-rows (after m total.entries) a (suc s) q total.result (Sums.length-sum m r (nothing s ++ row.result) (no 0) size ∙ e) (omega arith)

pub multiply_number : (v : ℕ → Bool) (n : ℕ) (a b : List Lit) → v 0 ≡ true → length a ≡ length b → Obeys v n (multiply n a b).entries →
    number v (multiply n a b).result ≡ wrap (length a) (number v a *ℤ number v b)
multiply_number v n a b y e o =
    let z = Sums.length-nothing (length a) in
    let r = rows_value v n a 0 b (nothing (length a)) y z (omega arith) o in
    Sums.number_is v (multiply n a b).result (length a) (unsigned (bits v a) * unsigned (bits v b)) r.0 (length-rows n a 0 b (nothing (length a)) z (omega arith)) (r.1 ∙ rw (Sums.unsigned_nothing v (length a) y) (omega arith))
    ∙ sym (Numbers.wrap-mul (length a) (unsigned (bits v a)) (unsigned (bits v b)) (number v a) (number v b) (Sums.word_residue v a (length a) refl) (Sums.word_residue v b (length a) (sym e)))
