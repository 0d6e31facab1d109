-- The laws of the circuits of equality, order and choice.
use Rattle.std.proofs.Common.{◌≡◌, ℕ, suc, ◌+◌, ◌*◌, ◌^◌, ◌<◌, ◌≤◌, Bool, true, false, not, ◌&&◌, cond, List, [], ◌∷◌, length, refl, sym, ap, ap₂, ◌∙◌, inl, inr, arith, nat_lt}
use Rattle.std.specs.Prelude.{ℤ, pos, ◌+ℤ◌, ◌<ℤ◌, ◌≤ℤ◌, int_lt}
use Rattle.std.specs.Bool.{beq}
use Rattle.std.proofs.lemmas.Int.{ints, by_lt_z}
use Rattle.std.proofs.lemmas.Bool.{cases_Bool, and_parts}
use Rattle.std.proofs.lemmas.Bool.Decides.{nat_tests}
use Rattle.std.proofs.Math.Nat.{pow-succ'}
use Rattle.cnf_form.specs.declared.lit.Lit.{Lit}
use Rattle.cnf_form.specs.Lits.{truth}
use Rattle.bit_blast.specs.Circuit.{yes, no}
use Rattle.bit_blast.specs.Meaning.{differ}
use Rattle.bit_blast.specs.Numbers.{unsigned, signed, bits, number}
use Rattle.bit_blast.specs.Words.{ite, equal_from, equal, less_from, less}
use Rattle.bit_blast.proofs.Values.{Obeys}
use Rattle.bit_blast.proofs.Circuits.{truth-yes, truth-no}
use Rattle.bit_blast.proofs.Sums

abbrev bit : Bool → ℕ
bit b = cond b 1 0

-- ---- choice

pub ite_bits : (v : ℕ → Bool) (n : ℕ) (c : Lit) (p q : List Lit) → length p ≡ length q → Obeys v n (ite n c p q).entries → bits v (ite n c p q).result ≡ cond (truth v c) (bits v p) (bits v q)
ite_bits v n c [] [] e o = elim (cases_Bool (truth v c)) [ inl t ↦ rw t refl | inr t ↦ rw t refl ]
ite_bits v n c [] (b ∷ q) e o = absurd (omega arith)
ite_bits v n c (a ∷ p) [] e o = absurd (omega arith)
ite_bits v n c (a ∷ p) (b ∷ q) e o =
    ap₂ (λ (x : Bool) (y : List Bool). x ∷ y) (truth-yes v n ∙ o.0) (ite_bits v (suc n) c p q (omega arith) o.1)
    ∙ go (truth v c)
  where
    go : (t : Bool) → (cond t (truth v a) (truth v b) ∷ cond t (bits v p) (bits v q)) ≡ cond t (truth v a ∷ bits v p) (truth v b ∷ bits v q)
    go true = refl
    go false = refl

-- ---- equality

-- two rows of bits are the same
same_bits : List Bool → List Bool → Bool
same_bits [] [] = true
same_bits [] (y ∷ ys) = false
same_bits (x ∷ xs) [] = false
same_bits (x ∷ xs) (y ∷ ys) = beq x y && same_bits xs ys

and-assoc : (a b c : Bool) → ((a && b) && c) ≡ (a && (b && c))
and-assoc true b c = refl
and-assoc false b c = refl

and-true : (a : Bool) → (a && true) ≡ a
and-true true = refl
and-true false = refl

not-differ : (a b : Bool) → not (differ a b) ≡ beq a b
not-differ true true = refl
not-differ true false = refl
not-differ false true = refl
not-differ false false = refl

equal_value : (v : ℕ → Bool) (n : ℕ) (p q : List Lit) (e : Lit) → length p ≡ length q → Obeys v n (equal_from n p q e).entries → truth v (equal_from n p q e).result ≡ (truth v e && same_bits (bits v p) (bits v q))
unfolding same_bits
equal_value v n [] [] e s o = sym (and-true (truth v e))
equal_value v n [] (b ∷ q) e s o = absurd (omega arith)
equal_value v n (a ∷ p) [] e s o = absurd (omega arith)
equal_value v n (a ∷ p) (b ∷ q) e s o =
    equal_value v (suc (suc n)) p q (yes (suc n)) (omega arith) o.1.1
    ∙ (ap (λ x. x && same_bits (bits v p) (bits v q))
    (truth-yes v (suc n) ∙ (o.1.0 ∙ ap (λ x. truth v e && x) (truth-no v n ∙ (ap not o.0 ∙ not-differ (truth v a) (truth v b)))))
    ∙ and-assoc (truth v e) (beq (truth v a) (truth v b)) (same_bits (bits v p) (bits v q)))

beq-eq : (a b : Bool) → beq a b ≡ true → a ≡ b
beq-eq true true e = refl
beq-eq false false e = refl
beq-eq true false e = cc
beq-eq false true e = cc

beq-refl : (a : Bool) → beq a a ≡ true
beq-refl true = refl
beq-refl false = refl

same_equal : (xs ys : List Bool) → same_bits xs ys ≡ true → xs ≡ ys
unfolding same_bits
same_equal [] [] e = refl
same_equal [] (y ∷ ys) e = cc
same_equal (x ∷ xs) [] e = cc
same_equal (x ∷ xs) (y ∷ ys) e =
    let p = and_parts (beq x y) (same_bits xs ys) e in
    ap₂ (λ (a : Bool) (b : List Bool). a ∷ b) (beq-eq x y p.0) (same_equal xs ys p.1)

same_refl : (xs : List Bool) → same_bits xs xs ≡ true
unfolding same_bits
same_refl [] = refl
same_refl (x ∷ xs) = rw (beq-refl x, same_refl xs) refl

-- the literal is true just where the words have the same bits
pub equal_yes : (v : ℕ → Bool) (n : ℕ) (a b : List Lit) → v 0 ≡ true → length a ≡ length b → Obeys v n (equal n a b).entries → truth v (equal n a b).result ≡ true → bits v a ≡ bits v b
equal_yes v n a b y s o t =
    same_equal (bits v a) (bits v b) (sym (equal_value v n a b (yes 0) s o ∙ ap (λ x. x && same_bits (bits v a) (bits v b)) (Sums.truth-yes_first v y)) ∙ t)

pub equal_no : (v : ℕ → Bool) (n : ℕ) (a b : List Lit) → v 0 ≡ true → length a ≡ length b → Obeys v n (equal n a b).entries → bits v a ≡ bits v b → truth v (equal n a b).result ≡ true
equal_no v n a b y s o t =
    equal_value v n a b (yes 0) s o ∙ (ap (λ x. x && same_bits (bits v a) (bits v b)) (Sums.truth-yes_first v y) ∙ (ap (same_bits (bits v a)) (sym t) ∙ same_refl (bits v a)))

-- ---- order

test_true : (x y : ℕ) → x < y → nat_lt x y ≡ true
test_true x y lt = grind (arith, nat_tests)

test_false : (x y : ℕ) → y ≤ x → nat_lt x y ≡ false
test_false x y le = grind (arith, nat_tests)

lt_of : (x y : ℕ) → nat_lt x y ≡ true → x < y
lt_of x y e = grind (arith, nat_tests)

ge_of : (x y : ℕ) → nat_lt x y ≡ false → y ≤ x
ge_of x y e = grind (arith, nat_tests)

-- the number of a bit before others
signed_more : (w u b : ℕ) → b ≤ 1 → signed (suc (suc w)) (b + 2 * u) ≡ pos b +ℤ (signed (suc w) u +ℤ signed (suc w) u)
unfolding signed
signed_more w u b le = elim (cases_Bool (nat_lt (2 * u) (2 ^ suc w))) [
  | inl l ↦
      let h = lt_of (2 * u) (2 ^ suc w) l in
      let t = test_true (2 * (b + 2 * u)) (2 ^ suc (suc w)) (omega (arith, pow-succ' 2 (suc w), pow-succ' 2 w)) in
      rw (l, t) (omega (arith, ints))
  | inr l ↦
      let h = ge_of (2 * u) (2 ^ suc w) l in
      let t = test_false (2 * (b + 2 * u)) (2 ^ suc (suc w)) (omega (arith, pow-succ' 2 (suc w), pow-succ' 2 w)) in
      rw (l, t) (omega (arith, ints, pow-succ' 2 (suc w)))
]

bit_small : (b : Bool) → bit b ≤ 1
bit_small true = omega arith
bit_small false = omega arith

number_more : (v : ℕ → Bool) (a b : Lit) (p : List Lit) → number v (a ∷ b ∷ p) ≡ pos (bit (truth v a)) +ℤ (number v (b ∷ p) +ℤ number v (b ∷ p))
number_more v a b p = signed_more (length p) (unsigned (bits v (b ∷ p))) (bit (truth v a)) (bit_small (truth v a))

-- whether x is less than y, or equal and l
less_or : ℤ → ℤ → Bool → Bool
less_or x y l = cond (int_lt x y) true (cond (int_lt y x) false l)

lt_true : (x y : ℤ) → x <ℤ y → int_lt x y ≡ true
lt_true x y h = grind (arith, ints)

lt_false : (x y : ℤ) → y ≤ℤ x → int_lt x y ≡ false
lt_false x y h = grind (arith, ints)

less_or_less : (x y : ℤ) (l : Bool) → x <ℤ y → less_or x y l ≡ true
unfolding less_or
less_or_less x y l h = rw (lt_true x y h) refl

less_or_more : (x y : ℤ) (l : Bool) → y <ℤ x → less_or x y l ≡ false
unfolding less_or
less_or_more x y l h = rw (lt_false x y (omega (arith, ints)), lt_true y x h) refl

less_or_same : (x y : ℤ) (l : Bool) → x ≡ y → less_or x y l ≡ l
unfolding less_or
less_or_same x y l h = rw (lt_false x y (omega (arith, ints)), lt_false y x (omega (arith, ints))) refl

less_step : (x y : ℤ) (a b l : Bool) → less_or x y (cond (differ a b) b l) ≡ less_or (pos (bit a) +ℤ (x +ℤ x)) (pos (bit b) +ℤ (y +ℤ y)) l
less_step x y a b l =
    by_lt_z x y
    (λ h. less_or_less x y _ h ∙ sym (less_or_less _ _ l (omega (arith, ints, bit_small a, bit_small b))))
    (λ h. by_lt_z y x
    (λ k. less_or_more x y _ k ∙ sym (less_or_more _ _ l (omega (arith, ints, bit_small a, bit_small b))))
    (λ k. let e : x ≡ y = omega (arith, ints) in less_or_same x y _ e ∙ go a b e))
  where
    go : (a b : Bool) → x ≡ y → cond (differ a b) b l ≡ less_or (pos (bit a) +ℤ (x +ℤ x)) (pos (bit b) +ℤ (y +ℤ y)) l
    go true true e = sym (less_or_same _ _ l (omega (arith, ints)))
    go true false e = sym (less_or_more _ _ l (omega (arith, ints)))
    go false true e = sym (less_or_less _ _ l (omega (arith, ints)))
    go false false e = sym (less_or_same _ _ l (omega (arith, ints)))

last_table : (a b l : Bool) → cond (differ a b) a l ≡ less_or (signed 1 (bit a + 2 * 0)) (signed 1 (bit b + 2 * 0)) l
unfolding less_or signed
last_table true true l = refl
last_table true false l = refl
last_table false true l = refl
last_table false false l = refl

less_value : (v : ℕ → Bool) (n : ℕ) (a b : Lit) (p q : List Lit) (l : Lit) → length p ≡ length q → Obeys v n (less_from n (a ∷ p) (b ∷ q) l).entries →
    truth v (less_from n (a ∷ p) (b ∷ q) l).result ≡ less_or (number v (a ∷ p)) (number v (b ∷ q)) (truth v l)
less_value v n a b [] [] l e o =
    truth-yes v (suc n) ∙ (o.1.0 ∙ (ap (λ t. cond t (truth v a) (truth v l)) (truth-yes v n ∙ o.0) ∙ last_table (truth v a) (truth v b) (truth v l)))
less_value v n a b [] (b2 ∷ q) l e o = absurd (omega arith)
less_value v n a b (a2 ∷ p) [] l e o = absurd (omega arith)
less_value v n a b (a2 ∷ p) (b2 ∷ q) l e o =
    less_value v (suc (suc n)) a2 b2 p q (yes (suc n)) (omega arith) o.1.1
    ∙ (ap (less_or (number v (a2 ∷ p)) (number v (b2 ∷ q))) (truth-yes v (suc n) ∙ (o.1.0 ∙ ap (λ t. cond t (truth v b) (truth v l)) (truth-yes v n ∙ o.0)))
    ∙ (less_step (number v (a2 ∷ p)) (number v (b2 ∷ q)) (truth v a) (truth v b) (truth v l)
    ∙ ap₂ (λ x y. less_or x y (truth v l)) (sym (number_more v a a2 p)) (sym (number_more v b b2 q))))

less_or_false : (x y : ℤ) → less_or x y false ≡ int_lt x y
unfolding less_or
less_or_false x y = elim (cases_Bool (int_lt x y)) [ inl e ↦ rw e refl | inr e ↦ rw e (elim (cases_Bool (int_lt y x)) [ inl f ↦ rw f refl | inr f ↦ rw f refl ]) ]

-- the literal tells whether the first number is less
pub less_number : (v : ℕ → Bool) (n : ℕ) (a b : List Lit) → v 0 ≡ true → length a ≡ length b → 1 ≤ length a → Obeys v n (less n a b).entries → truth v (less n a b).result ≡ int_lt (number v a) (number v b)
less_number v n [] b y s some o = absurd (omega arith)
less_number v n (a ∷ p) [] y s some o = absurd (omega arith)
less_number v n (a ∷ p) (b ∷ q) y s some o =
    less_value v n a b p q (no 0) (omega arith) o
    ∙ (ap (less_or (number v (a ∷ p)) (number v (b ∷ q))) (Sums.truth-no_first v y) ∙ less_or_false _ _)
