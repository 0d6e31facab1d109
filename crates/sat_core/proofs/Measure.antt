-- The trail as a number in base 3, the first place highest.
use Rattle.std.proofs.Common.{◌≡◌, ℕ, zero, suc, ◌*◌, ◌^◌, ◌<◌, ◌≤◌, List, [], ◌∷◌, ◌++◌, take, length, Option, Some, None, refl, arith, pow-suc, mul-le-mul_right, one-mul}
use Rattle.sat_core.specs.declared.trail.Entry.{Entry}
use Rattle.sat_core.specs.Trail.{reason_at}
use Rattle.sat_core.specs.Weight.{digit, weigh}

weigh-nil : (v : ℕ) → weigh v [] ≡ 0
weigh-nil zero = refl
weigh-nil (suc v) = refl

digit_few : (o : Option ℕ) (m : ℕ) → digit o * m ≤ 2 * m
digit_few (Some r) m = omega arith
digit_few None m = omega arith

three_pow : (v : ℕ) → 3 ^ suc v ≡ 3 * 3 ^ v
three_pow v = grind (arith, pow-suc)

three_pos : (v : ℕ) → 0 < 3 ^ v
three_pos zero = omega arith
three_pos (suc v) = let i = three_pos v in let p = three_pow v in omega arith

pub weigh-lt : (v : ℕ) (t : List Entry) → weigh v t < 3 ^ v
weigh-lt zero t = omega arith
weigh-lt (suc v) [] = three_pos (suc v)
weigh-lt (suc v) (e ∷ es) = let h = weigh-lt v es in let d = digit_few e.reason (3 ^ v) in let p = three_pow v in omega arith

digit_some : (o : Option ℕ) → 1 ≤ digit o
digit_some (Some r) = omega arith
digit_some None = omega arith

one_le : (n m : ℕ) → 1 ≤ n → m ≤ n * m
one_le n m h = grind (arith, mul-le-mul_right, one-mul)

pub weigh-push : (v : ℕ) (t : List Entry) (e : Entry) → length t < v → weigh v t < weigh v (t ++ e ∷ [])
weigh-push zero t e h = absurd (omega arith)
weigh-push (suc v) [] e h = let d = one_le (digit e.reason) (3 ^ v) (digit_some e.reason) in let p = three_pos v in omega arith
weigh-push (suc v) (f ∷ fs) e h = let i = weigh-push v fs e (omega arith) in omega arith

double : (o : Option ℕ) (r : ℕ) (m : ℕ) → o ≡ Some r → digit o * m ≡ 2 * m
double o r m e = rw e refl

single : (o : Option ℕ) (m : ℕ) → o ≡ None → digit o * m ≡ m
single o m e = rw e (one-mul m)

-- a decision gives way to a literal that follows
pub weigh-turn : (v : ℕ) (t : List Entry) (q : ℕ) (e : Entry) (r : ℕ) → q < length t → length t ≤ v → reason_at t q ≡ None → e.reason ≡ Some r → weigh v t < weigh v (take q t ++ e ∷ [])
weigh-turn v [] q e r h le n s = absurd (omega arith)
weigh-turn zero (f ∷ fs) q e r h le n s = absurd (omega arith)
weigh-turn (suc v) (f ∷ fs) zero e r h le n s =
    let a = weigh-lt v fs in let b = double e.reason r (3 ^ v) s in let d = single f.reason (3 ^ v) n in omega arith
weigh-turn (suc v) (f ∷ fs) (suc q) e r h le n s = let i = weigh-turn v fs q e r (omega arith) (omega arith) n s in omega arith
