-- Steps along two lists of one length.
use Rattle.std.proofs.Common.{◌≡◌, ◌+◌, ◌<◌, ℕ, zero, suc, List, [], ◌∷◌, ◌++◌, length, take, get_or, refl, ap, arith, ◌∙◌}
use Rattle.std.specs.List.{zip}

pub zip_more : {K V : Type 0} (ks : List K) (vs : List V) (i : ℕ) (k : K) (v : V) → i < length ks → i < length vs → take (i + 1) (zip ks vs) ≡ take i (zip ks vs) ++ (get_or ks i k, get_or vs i v) ∷ []
zip_more [] vs i k v lk lv = absurd (omega (arith, lk))
zip_more (x ∷ ks) [] i k v lk lv = absurd (omega (arith, lv))
zip_more (x ∷ ks) (y ∷ vs) zero k v lk lv = refl
zip_more (x ∷ ks) (y ∷ vs) (suc i) k v lk lv =
    let next : suc i + 1 ≡ suc (i + 1) = omega arith in
    ap (λ n. take n ((x, y) ∷ zip ks vs)) next ∙ ap (λ ps. (x, y) ∷ ps) (zip_more ks vs i k v (omega (arith, lk)) (omega (arith, lv)))
