-- Items with their places, one more each time.
use Rattle.std.proofs.Common.{◌≡◌, ℕ, zero, suc, ◌+◌, ◌<◌, ◌≤◌, List, [], ◌∷◌, ◌++◌, length, take, get_or, refl, ap, ◌∙◌, arith, append_assoc}
use Rattle.std.specs.List.{enumerate_from, flat_map}
use Rattle.std.proofs.lemmas.List.{take_more}
use Rattle.std.proofs.lemmas.List.Concat.{flat_map-append}

enumerate_more : {X : Type 0} (n m : ℕ) (xs : List X) (x : X) → m ≡ n + length xs → enumerate_from n (xs ++ x ∷ []) ≡ enumerate_from n xs ++ (m, x) ∷ []
enumerate_more n m [] x e = ap (λ k. (k, x) ∷ []) (omega (arith, e))
enumerate_more n m (y ∷ xs) x e = ap (λ rest. (n, y) ∷ rest) (enumerate_more (n + 1) m xs x (omega (arith, e)))

append_nil : {A : Type 0} (xs : List A) → xs ++ [] ≡ xs
append_nil [] = refl
append_nil (x ∷ xs) = ap (λ rest. x ∷ rest) (append_nil xs)

pub length_take : {X : Type 0} (xs : List X) (i : ℕ) → i ≤ length xs → length (take i xs) ≡ i
length_take xs zero h = refl
length_take [] (suc i) h = absurd (omega arith)
length_take (x ∷ xs) (suc i) h = ap suc (length_take xs i (omega arith))

-- what comes of the first items and of the next one
pub numbered_more : {X A : Type 0} (f : ℕ × X → List A) (xs : List X) (i : ℕ) (d : X) → i < length xs → flat_map f (enumerate_from 0 (take (i + 1) xs)) ≡ flat_map f (enumerate_from 0 (take i xs)) ++ f (i, get_or xs i d)
numbered_more f xs i d h =
    let e : enumerate_from 0 (take (i + 1) xs) ≡ enumerate_from 0 (take i xs) ++ (i, get_or xs i d) ∷ [] =
    ap (enumerate_from 0) (take_more xs i d h) ∙ enumerate_more 0 i (take i xs) (get_or xs i d) (omega (arith, length_take xs i (omega arith))) in
    ap (flat_map f) e ∙ flat_map-append f (enumerate_from 0 (take i xs)) ((i, get_or xs i d) ∷ []) ∙ ap (λ ys. flat_map f (enumerate_from 0 (take i xs)) ++ ys) (append_nil (f (i, get_or xs i d)))

-- items that were added to what had been added before
pub added : {A : Type 0} (start old now before more after : List A) → old ≡ start ++ before → now ≡ old ++ more → after ≡ before ++ more → now ≡ start ++ after
added start old now before more after was adds is = rw (adds, was, is, append_assoc)
