-- What a list contains, by its first element and the others.
use Rattle.std.proofs.Common.{◌≡◌, ◌⊎◌, inl, inr, suc, zero, List, [], ◌∷◌, arith}
use Rattle.std.specs.List.{Contains}

pub first : {A : Type 0} (x y : A) (xs : List A) → y ≡ x → Contains (y ∷ xs) x
first x y xs same = (0, omega arith, same)

pub later : {A : Type 0} (x y : A) (xs : List A) → Contains xs x → Contains (y ∷ xs) x
later x y xs h = (suc h.0, (let lt = h.1 in omega (arith, lt)), h.2)

pub none : {A B : Type 0} (x : A) → Contains [] x → B
none x h = let lt = h.1 in absurd (omega (arith, lt))

pub parts : {A : Type 0} (x y : A) (xs : List A) → Contains (y ∷ xs) x → (y ≡ x) ⊎ Contains xs x
parts x y xs (zero, lt, is) = inl is
parts x y xs (suc k, lt, is) = inr (k, omega (arith, lt), is)
