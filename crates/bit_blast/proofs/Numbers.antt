-- Two's complement numbers: the residue of a sum, a difference and a product is that of the residues.
use Rattle.std.proofs.Common.{◌≡◌, ℕ, zero, suc, ◌+◌, ◌-◌, ◌*◌, ◌^◌, ◌%◌, ◌<◌, Bool, true, false, List, [], ◌∷◌, length, refl, sym, ap, ◌∙◌, subst, inl, inr, arith, nat_lt}
use Rattle.std.specs.Prelude.{ℤ, pos, negsuc, neg_ℤ, ◌+ℤ◌, ◌-ℤ◌, ◌*ℤ◌}
use Rattle.std.specs.Int.RustNames.{unsigned_abs}
use Rattle.std.proofs.lemmas.Bool.{cases_Bool}
use Rattle.std.proofs.lemmas.Int.{ints, int_rem_euclid_is}
use Rattle.std.proofs.lemmas.Nat.{mod-mul-add}
use Rattle.std.proofs.Math.Nat.{pow-succ', add-mul-mod_self_right}
use Rattle.std.proofs.Math.IntN.{pos-*ℤ-pos, pos-*ℤ-negsuc, negsuc-*ℤ-pos}
use Rattle.bit_blast.specs.Numbers.{unsigned, signed, wrap}

pub power_more : (w : ℕ) → 0 < 2 ^ w
power_more zero = omega arith
power_more (suc w) = omega (arith, pow-succ' 2 w, power_more w)

pub unsigned_below : (bs : List Bool) → unsigned bs < 2 ^ length bs
unsigned_below [] = omega arith
unsigned_below (true ∷ bs) = omega (arith, pow-succ' 2 (length bs), unsigned_below bs)
unsigned_below (false ∷ bs) = omega (arith, pow-succ' 2 (length bs), unsigned_below bs)

-- a residue and the number that it stands for
pub data IsResidue (m : ℕ) (r : ℕ) (z : ℤ) : Type 0 where
  same : z ≡ pos r → IsResidue m r z
  below : (x : ℕ) → z ≡ negsuc x → r + suc x ≡ m → IsResidue m r z

pub residue_of : (w r : ℕ) → r < 2 ^ w → IsResidue (2 ^ w) r (signed w r)
unfolding signed
residue_of w r lt = elim (cases_Bool (nat_lt (2 * r) (2 ^ w))) [
  | inl e ↦ same (rw e refl)
  | inr e ↦ below (2 ^ w - 1 - r) (rw e (omega (arith, ints))) (omega arith)
]

-- the number of a residue
pub wrap_of : (w : ℕ) (z : ℤ) (k m : ℕ) → z +ℤ pos (k * 2 ^ w) ≡ pos m → wrap w z ≡ signed w (m % 2 ^ w)
unfolding wrap
wrap_of w z k m e = ap (λ r. signed w (unsigned_abs r)) (int_rem_euclid_is z (pos (2 ^ w)) (2 ^ w) k m (power_more w) refl e)

pub residue_is : (m x u k : ℕ) → u + k * m ≡ x → u < m → x % m ≡ u
residue_is m x u k e lt = ap (λ y. y % m) (sym e ∙ (omega arith)) ∙ mod-mul-add k m u lt

pub more_residue : (m x y k : ℕ) → x ≡ y + k * m → x % m ≡ y % m
more_residue m x y k e = ap (λ z. z % m) e ∙ add-mul-mod_self_right y k m

wrap-add-m : (w m : ℕ) → m ≡ 2 ^ w → (a b : ℕ) (y z : ℤ) → IsResidue m a y → IsResidue m b z → wrap w (y +ℤ z) ≡ signed w ((a + b) % m)
wrap-add-m w m q a b y z (same e) (same f) = rw (e, f, q) (wrap_of w (pos a +ℤ pos b) 0 (a + b) (omega (arith, ints)))
wrap-add-m w m q a b y z (same e) (below x f g) = rw (e, f, q) (wrap_of w (pos a +ℤ negsuc x) 1 (a + b) (omega (arith, ints)))
wrap-add-m w m q a b y z (below x f g) (same e) = rw (e, f, q) (wrap_of w (negsuc x +ℤ pos b) 1 (a + b) (omega (arith, ints)))
wrap-add-m w m q a b y z (below x e g) (below u f h) = rw (e, f, q) (wrap_of w (negsuc x +ℤ negsuc u) 2 (a + b) (omega (arith, ints)))

pub wrap-add : (w a b : ℕ) (y z : ℤ) → IsResidue (2 ^ w) a y → IsResidue (2 ^ w) b z → wrap w (y +ℤ z) ≡ signed w ((a + b) % 2 ^ w)
wrap-add w a b y z p q = wrap-add-m w (2 ^ w) refl a b y z p q

pub wrap-sub : (w a b : ℕ) (y z : ℤ) → b < 2 ^ w → IsResidue (2 ^ w) a y → IsResidue (2 ^ w) b z → wrap w (y -ℤ z) ≡ signed w ((a + (2 ^ w - b)) % 2 ^ w)
wrap-sub w a b y z lt (same e) (same f) = rw (e, f) (wrap_of w (pos a -ℤ pos b) 1 (a + (2 ^ w - b)) (omega (arith, ints)))
wrap-sub w a b y z lt (same e) (below x f g) = rw (e, f) (wrap_of w (pos a -ℤ negsuc x) 0 (a + (2 ^ w - b)) (omega (arith, ints)))
wrap-sub w a b y z lt (below x f g) (same e) = rw (e, f) (wrap_of w (negsuc x -ℤ pos b) 2 (a + (2 ^ w - b)) (omega (arith, ints)))
wrap-sub w a b y z lt (below x e g) (below u f h) = rw (e, f) (wrap_of w (negsuc x -ℤ negsuc u) 1 (a + (2 ^ w - b)) (omega (arith, ints)))

pub wrap-neg : (w b : ℕ) (z : ℤ) → b < 2 ^ w → IsResidue (2 ^ w) b z → wrap w (neg_ℤ z) ≡ signed w ((2 ^ w - b) % 2 ^ w)
wrap-neg w b z lt (same f) = rw f (wrap_of w (neg_ℤ (pos b)) 1 (2 ^ w - b) (omega (arith, ints)))
wrap-neg w b z lt (below x f g) = rw f (wrap_of w (neg_ℤ (negsuc x)) 0 (2 ^ w - b) (omega (arith, ints)))

-- (m - x) * (m - y) is x * y modulo m
both_below : (m a b x y : ℕ) → a + x ≡ m → b + y ≡ m → x * y + m * m ≡ a * b + (x + y) * m
both_below m a b x y e f = subst (λ n. x * y + n * n ≡ a * b + (x + y) * n) e (go a b x y (e ∙ sym f))
  where
    go : (a b x y : ℕ) → a + x ≡ b + y → x * y + (a + x) * (a + x) ≡ a * b + (x + y) * (a + x)
    go a b x y e = omega (arith, ap (λ t. a * t) e)

pub wrap-mul : (w a b : ℕ) (y z : ℤ) → IsResidue (2 ^ w) a y → IsResidue (2 ^ w) b z → wrap w (y *ℤ z) ≡ signed w ((a * b) % 2 ^ w)
wrap-mul w a b y z (same e) (same f) = rw (e, f) (wrap_of w (pos a *ℤ pos b) 0 (a * b) (omega (arith, ints, pos-*ℤ-pos a b)))
wrap-mul w a b y z (same e) (below x f g) = rw (e, f) (wrap_of w (pos a *ℤ negsuc x) a (a * b) (omega (arith, ints, pos-*ℤ-negsuc a x, ap (λ t. a * t) g)))
wrap-mul w a b y z (below x f g) (same e) = rw (e, f) (wrap_of w (negsuc x *ℤ pos b) b (a * b) (omega (arith, ints, negsuc-*ℤ-pos x b, ap (λ t. b * t) g)))
wrap-mul w a b y z (below x e g) (below u f h) = rw (e, f) (wrap_of w (negsuc x *ℤ negsuc u) (2 ^ w) (suc x * suc u + 2 ^ w * 2 ^ w) refl ∙ ap (signed w) (more_residue (2 ^ w) _ (a * b) (suc x + suc u) (both_below (2 ^ w) a b (suc x) (suc u) g h)))
