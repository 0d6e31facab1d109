-- The circuits of words are of gates alone, each reads literals that there are, and they take so many variables.
use Rattle.std.proofs.Common.{◌≡◌, ℕ, zero, suc, ◌+◌, ◌-◌, ◌*◌, ◌<◌, ◌≤◌, List, [], ◌∷◌, ◌++◌, length, take, refl, ap, ◌∙◌, arith, length-append, length-take}
use Rattle.std.proofs.lemmas.List.Elements.{All-head, All-tail}
use Rattle.cnf_form.specs.declared.lit.Lit.{Lit}
use Rattle.cnf_form.specs.Lits.{turned}
use Rattle.bit_blast.specs.Circuit.{yes, no, after}
use Rattle.bit_blast.specs.Made.{IsBelow}
use Rattle.bit_blast.specs.Words.{fresh, ite, sum, inverted, nothing, masked, rows, equal_from, less_from}
use Rattle.bit_blast.proofs.Values.{AreGates}
use Rattle.bit_blast.proofs.Circuits.{after-append, after_more, gates_both}
use Rattle.bit_blast.proofs.Sums
use Rattle.bit_blast.proofs.Products

-- the literals of a word are of variables below n
abbrev pub Within : ℕ → List Lit → Type 0
Within n [] = Unit {0}
Within n (l ∷ a) = (l.var < n) × Within n a

pub within : (n : ℕ) (a : List Lit) → IsBelow n a → Within n a
within n [] b = tt
within n (l ∷ a) b = (All-head (λ (x : Lit). x.var < n) l a b, within n a (All-tail (λ (x : Lit). x.var < n) l a b))

pub within_more : (n m : ℕ) (a : List Lit) → n ≤ m → Within n a → Within m a
within_more n m [] le w = tt
within_more n m (l ∷ a) le w = (omega (arith, w.0), within_more n m a le w.1)

pub within_both : (n : ℕ) (a b : List Lit) → Within n a → Within n b → Within n (a ++ b)
within_both n [] b p q = q
within_both n (l ∷ a) b p q = (p.0, within_both n a b p.1 q)

pub within_take : (n k : ℕ) (a : List Lit) → Within n a → Within n (take k a)
within_take n zero a p = tt
within_take n (suc k) [] p = tt
within_take n (suc k) (l ∷ a) p = (p.0, within_take n k a p.1)

pub within_nothing : (n k : ℕ) → 0 < n → Within n (nothing k)
within_nothing n zero h = tt
within_nothing n (suc k) h = (h, within_nothing n k h)

pub within_inverted : (n : ℕ) (a : List Lit) → Within n a → Within n (inverted a)
unfolding turned
within_inverted n [] p = tt
within_inverted n (l ∷ a) p = (p.0, within_inverted n a p.1)

-- ---- how many variables

pub after-sum : (n : ℕ) (p q : List Lit) (c : Lit) → length p ≡ length q → after n (sum n p q c).entries ≡ n + 5 * length p
after-sum n [] q c e = omega arith
after-sum n (a ∷ p) [] c e = absurd (omega arith)
after-sum n (a ∷ p) (b ∷ q) c e = after-sum _ p q _ (omega arith) ∙ omega arith

pub after-masked : (n : ℕ) (p : List Lit) (b : Lit) → after n (masked n p b).entries ≡ n + length p
after-masked n [] b = omega arith
after-masked n (a ∷ p) b = after-masked (suc n) p b ∙ omega arith

pub after-ite : (n : ℕ) (c : Lit) (p q : List Lit) → length p ≡ length q → after n (ite n c p q).entries ≡ n + length p
after-ite n c [] q e = omega arith
after-ite n c (a ∷ p) [] e = absurd (omega arith)
after-ite n c (a ∷ p) (b ∷ q) e = after-ite (suc n) c p q (omega arith) ∙ omega arith

pub after-fresh : (n bits : ℕ) → after n (fresh n bits).entries ≡ n + bits
after-fresh n zero = omega arith
after-fresh n (suc bits) = after-fresh (suc n) bits ∙ omega arith

pub after-equal : (n : ℕ) (p q : List Lit) (e : Lit) → length p ≡ length q → after n (equal_from n p q e).entries ≡ n + 2 * length p
after-equal n [] q e s = omega arith
after-equal n (a ∷ p) [] e s = absurd (omega arith)
after-equal n (a ∷ p) (b ∷ q) e s = after-equal (suc (suc n)) p q _ (omega arith) ∙ omega arith

pub after-less : (n : ℕ) (p q : List Lit) (l : Lit) → length p ≡ length q → after n (less_from n p q l).entries ≡ n + 2 * length p
after-less n [] q l s = omega arith
after-less n (a ∷ p) [] l s = absurd (omega arith)
after-less n (a ∷ []) (b ∷ []) l s = omega arith
after-less n (a ∷ []) (b ∷ b2 ∷ q) l s = absurd (omega arith)
after-less n (a ∷ a2 ∷ p) (b ∷ []) l s = absurd (omega arith)
after-less n (a ∷ a2 ∷ p) (b ∷ b2 ∷ q) l s = after-less (suc (suc n)) (a2 ∷ p) (b2 ∷ q) _ (omega arith) ∙ omega arith

-- at most six times the bits for each row that is left
pub after-rows : (n : ℕ) (a : List Lit) (s : ℕ) (q r : List Lit) → length r ≡ length a → s + length q ≤ length a → after n (rows n a s q r).entries ≤ n + 6 * length a * length q
after-rows n a s [] r e le = omega arith
after-rows n a s (b ∷ q) r e le =
    let front = take (length a - s) a in
    let row = masked n front b in
    let m = after n row.entries in
    let total = sum m r (nothing s ++ row.result) (no 0) in
    let front_length : length front ≡ length a - s = omega (arith, length-take (length a - s) a) in
    let size : length r ≡ length (nothing s ++ row.result) =
    omega (arith, length-append (nothing s) row.result, Sums.length-nothing s, Products.length-masked n front b, front_length) in
    let i = after-rows (after m total.entries) a (suc s) q total.result (Sums.length-sum m r (nothing s ++ row.result) (no 0) size ∙ e) (omega arith) in
    let k : m ≡ n + length front = after-masked n front b in
    let j : after m total.entries ≡ m + 5 * length r = after-sum m r (nothing s ++ row.result) (no 0) size in
    bound n (after n (row.entries ++ (total.entries ++ (rows (after m total.entries) a (suc s) q total.result).entries))) m (after m total.entries) (length a) (length q) (length front) (length r) e k j
    (after-append n row.entries _ ∙ after-append m total.entries _) i (omega arith)
  where
    bound : (n x m t w q f r : ℕ) → r ≡ w → m ≡ n + f → t ≡ m + 5 * r → {z : ℕ} → x ≡ z → z ≤ t + 6 * w * q → f ≤ w → x ≤ n + 6 * w * (suc q)
    bound n x m t w q f r e k j g i l = omega arith

-- ---- gates alone

pub gates_sum : (n : ℕ) (p q : List Lit) (c : Lit) → length p ≡ length q → Within n p → Within n q → c.var < n → AreGates n (sum n p q c).entries
gates_sum n [] q c e p1 q1 lt = tt
gates_sum n (a ∷ p) [] c e p1 q1 lt = absurd (omega arith)
gates_sum n (a ∷ p) (b ∷ q) c e p1 q1 lt =
    let more : n ≤ suc (suc (suc (suc (suc n)))) = omega arith in (
      tt,
      (p1.0, q1.0),
      (
        tt,
        (omega arith, omega arith),
        (
          tt,
          (omega (arith, p1.0), omega (arith, q1.0)),
          (
            tt,
            (omega arith, omega arith),
            (
              tt,
              (omega arith, omega arith),
              gates_sum _ p q _ (omega arith) (within_more n _ p more p1.1) (within_more n _ q more q1.1) (omega arith),
            ),
          ),
        ),
      ),
    )

pub gates_masked : (n : ℕ) (p : List Lit) (b : Lit) → Within n p → b.var < n → AreGates n (masked n p b).entries
gates_masked n [] b p1 lt = tt
gates_masked n (a ∷ p) b p1 lt = (tt, (p1.0, lt), gates_masked (suc n) p b (within_more n (suc n) p (omega arith) p1.1) (omega arith))

pub gates_ite : (n : ℕ) (c : Lit) (p q : List Lit) → length p ≡ length q → c.var < n → Within n p → Within n q → AreGates n (ite n c p q).entries
gates_ite n c [] q e lt p1 q1 = tt
gates_ite n c (a ∷ p) [] e lt p1 q1 = tt
gates_ite n c (a ∷ p) (b ∷ q) e lt p1 q1 = (tt, (lt, p1.0, q1.0), gates_ite (suc n) c p q (omega arith) (omega arith) (within_more n (suc n) p (omega arith) p1.1) (within_more n (suc n) q (omega arith) q1.1))

pub gates_fresh : (n bits : ℕ) → AreGates n (fresh n bits).entries
gates_fresh n zero = tt
gates_fresh n (suc bits) = (tt, tt, gates_fresh (suc n) bits)

pub gates_equal : (n : ℕ) (p q : List Lit) (e : Lit) → length p ≡ length q → Within n p → Within n q → e.var < n → AreGates n (equal_from n p q e).entries
gates_equal n [] q e s p1 q1 lt = tt
gates_equal n (a ∷ p) [] e s p1 q1 lt = tt
gates_equal n (a ∷ p) (b ∷ q) e s p1 q1 lt =
    let more : n ≤ suc (suc n) = omega arith in
    (tt, (p1.0, q1.0), (tt, (omega arith, omega arith), gates_equal (suc (suc n)) p q _ (omega arith) (within_more n _ p more p1.1) (within_more n _ q more q1.1) (omega arith)))

pub gates_less : (n : ℕ) (p q : List Lit) (l : Lit) → length p ≡ length q → Within n p → Within n q → l.var < n → AreGates n (less_from n p q l).entries
gates_less n [] q l s p1 q1 lt = tt
gates_less n (a ∷ p) [] l s p1 q1 lt = absurd (omega arith)
gates_less n (a ∷ []) (b ∷ []) l s p1 q1 lt = (tt, (p1.0, q1.0), (tt, (omega arith, omega (arith, p1.0), omega arith), tt))
gates_less n (a ∷ []) (b ∷ b2 ∷ q) l s p1 q1 lt = absurd (omega arith)
gates_less n (a ∷ a2 ∷ p) (b ∷ []) l s p1 q1 lt = absurd (omega arith)
gates_less n (a ∷ a2 ∷ p) (b ∷ b2 ∷ q) l s p1 q1 lt =
    let more : n ≤ suc (suc n) = omega arith in
    (tt, (p1.0, q1.0), (tt, (omega arith, omega (arith, q1.0), omega arith), gates_less (suc (suc n)) (a2 ∷ p) (b2 ∷ q) _ (omega arith) (within_more n _ (a2 ∷ p) more p1.1) (within_more n _ (b2 ∷ q) more q1.1) (omega arith)))

-- ---- results

pub within_sum : (n : ℕ) (p q : List Lit) (c : Lit) → length p ≡ length q → Within (after n (sum n p q c).entries) (sum n p q c).result
within_sum n [] q c e = tt
within_sum n (a ∷ p) [] c e = absurd (omega arith)
within_sum n (a ∷ p) (b ∷ q) c e =
    let x = after_more (suc (suc (suc (suc (suc n))))) (sum (suc (suc (suc (suc (suc n))))) p q (yes (suc (suc (suc (suc n)))))).entries in
    (omega arith, within_sum _ p q _ (omega arith))

pub within_masked : (n : ℕ) (p : List Lit) (b : Lit) → Within (after n (masked n p b).entries) (masked n p b).result
within_masked n [] b = tt
within_masked n (a ∷ p) b = let x = after_more (suc n) (masked (suc n) p b).entries in (omega arith, within_masked (suc n) p b)

pub within_ite : (n : ℕ) (c : Lit) (p q : List Lit) → Within (after n (ite n c p q).entries) (ite n c p q).result
within_ite n c [] q = tt
within_ite n c (a ∷ p) [] = tt
within_ite n c (a ∷ p) (b ∷ q) = let x = after_more (suc n) (ite (suc n) c p q).entries in (omega arith, within_ite (suc n) c p q)

pub within_fresh : (n bits : ℕ) → Within (after n (fresh n bits).entries) (fresh n bits).result
within_fresh n zero = tt
within_fresh n (suc bits) = let x = after_more (suc n) (fresh (suc n) bits).entries in (omega arith, within_fresh (suc n) bits)

pub length-ite : (n : ℕ) (c : Lit) (p q : List Lit) → length p ≡ length q → length (ite n c p q).result ≡ length p
length-ite n c [] q e = refl
length-ite n c (a ∷ p) [] e = absurd (omega arith)
length-ite n c (a ∷ p) (b ∷ q) e = ap suc (length-ite (suc n) c p q (omega arith))

pub length-fresh : (n bits : ℕ) → length (fresh n bits).result ≡ bits
length-fresh n zero = refl
length-fresh n (suc bits) = ap suc (length-fresh (suc n) bits)

pub gates_rows : (n : ℕ) (a : List Lit) (s : ℕ) (q r : List Lit) → length r ≡ length a → s + length q ≤ length a → 0 < n → Within n a → Within n q → Within n r → AreGates n (rows n a s q r).entries
gates_rows n a s [] r e le h a1 q1 r1 = tt
gates_rows n a s (b ∷ q) r e le h a1 q1 r1 =
    let front = take (length a - s) a in
    let row = masked n front b in
    let m = after n row.entries in
    let total = sum m r (nothing s ++ row.result) (no 0) in
    let t = after m total.entries in
    let front_length : length front ≡ length a - s = omega (arith, length-take (length a - s) a) in
    let size : length r ≡ length (nothing s ++ row.result) =
    omega (arith, length-append (nothing s) row.result, Sums.length-nothing s, Products.length-masked n front b, front_length) in
    let nm = after_more n row.entries in
    let mt = after_more m total.entries in
    let n_t : n ≤ t = omega arith in
    gates_both n row.entries _ (gates_masked n front b (within_take n (length a - s) a a1) q1.0)
    (gates_both m total.entries _
    (gates_sum m r (nothing s ++ row.result) (no 0) size (within_more n m r nm r1) (within_both m (nothing s) row.result (within_nothing m s (omega arith)) (within_masked n front b)) (omega arith))
    (gates_rows t a (suc s) q total.result (Sums.length-sum m r (nothing s ++ row.result) (no 0) size ∙ e) (omega arith) (omega arith) (within_more n t a n_t a1) (within_more n t q n_t q1.1) (within_sum m r (nothing s ++ row.result) (no 0) size)))
