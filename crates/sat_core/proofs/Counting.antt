-- The trail has no more entries than there are variables.
use Rattle.std.proofs.Common.{◌≡◌, ℕ, zero, suc, ◌<◌, ◌≤◌, List, [], ◌∷◌, take, set, get_or, length, Option, Some, None, refl, ap, arith, length-take}
use Rattle.std.proofs.lemmas.Option.{none-some}
use Rattle.cnf_form.specs.declared.lit.Lit.{Lit}
use Rattle.sat_core.specs.declared.trail.Entry.{Entry}
use Rattle.sat_core.specs.Trail.{lit_at, place_of, IsPlaced}
use Rattle.sat_core.proofs.Placing.{Placed-pop}

abbrev some_count : List (Option ℕ) → ℕ
some_count [] = 0
some_count (None ∷ os) = some_count os
some_count (Some k ∷ os) = suc (some_count os)

some-most : (os : List (Option ℕ)) → some_count os ≤ length os
some-most [] = omega arith
some-most (None ∷ os) = let i = some-most os in omega arith
some-most (Some k ∷ os) = let i = some-most os in omega arith

some-less : (os : List (Option ℕ)) (v k : ℕ) → get_or os v None ≡ Some k → some_count os ≡ suc (some_count (set os v None))
some-less [] v k e = absurd (none-some k e)
some-less (None ∷ os) zero k e = absurd (none-some k e)
some-less (Some j ∷ os) zero k e = refl
some-less (None ∷ os) (suc v) k e = some-less os v k e
some-less (Some j ∷ os) (suc v) k e = ap suc (some-less os v k e)

placed-count : (n vars : ℕ) (t : List Entry) (places : List (Option ℕ)) → length t ≡ n → IsPlaced vars t places → n ≤ some_count places
placed-count zero vars t places e p = omega arith
placed-count (suc n) vars t places e p =
    let l = length-take n t in
    let i = placed-count n vars (take n t) (set places (lit_at t n).var None) (omega arith) (Placed-pop vars t places n (omega arith) p) in
    let s = some-less places (lit_at t n).var n (p.from n (omega arith)) in
    omega arith

pub placed-few : (vars : ℕ) (t : List Entry) (places : List (Option ℕ)) → IsPlaced vars t places → length t ≤ vars
placed-few vars t places p = let a = placed-count (length t) vars t places refl p in let b = some-most places in let c = p.long in omega arith

-- with a variable free there is room for one entry more
some-room : (os : List (Option ℕ)) (v : ℕ) → v < length os → get_or os v None ≡ None → some_count os < length os
some-room [] v l e = absurd (omega arith)
some-room (None ∷ os) zero l e = let i = some-most os in omega arith
some-room (Some j ∷ os) zero l e = cc
some-room (None ∷ os) (suc v) l e = let i = some-most os in omega arith
some-room (Some j ∷ os) (suc v) l e = let i = some-room os v (omega arith) e in omega arith

pub placed-room : (vars : ℕ) (t : List Entry) (places : List (Option ℕ)) (x : Lit) → IsPlaced vars t places → x.var < vars → place_of places x ≡ None → length t < vars
placed-room vars t places x p v e = let c = p.long in let a = placed-count (length t) vars t places refl p in let b = some-room places x.var (omega arith) e in omega arith
