-- The conditions of one port more, and of one edge more.
use Rattle.std.proofs.Common.{◌≡◌, ℕ, ◌+◌, Bool, List, [], ◌∷◌, ◌++◌, ap, ◌∙◌}
use Rattle.std.specs.List.{filter, flat_map, range_with_len}
use Rattle.std.proofs.lemmas.List.{append-nil}
use Rattle.std.proofs.lemmas.List.Concat.{flat_map-append}
use Rattle.std.proofs.lemmas.List.Elements.{filter-append}
use Rattle.dep_paths.proofs.Growth.{range_more}

-- what comes of one number more
pub numbers_more : {X : Type 0} (f : ℕ → List X) (n : ℕ) → flat_map f (range_with_len 0 (n + 1)) ≡ flat_map f (range_with_len 0 n) ++ f n
numbers_more f n =
    ap (flat_map f) (range_more n)
    ∙ flat_map-append f (range_with_len 0 n) (n ∷ []) ∙ ap (λ xs. flat_map f (range_with_len 0 n) ++ xs) (append-nil (f n))

-- the items of a kind that come of one number more
pub filter_more : {X : Type 0} (p : X → Bool) (f : ℕ → List X) (n : ℕ) → filter p (flat_map f (range_with_len 0 (n + 1))) ≡ filter p (flat_map f (range_with_len 0 n)) ++ filter p (f n)
filter_more p f n = ap (filter p) (numbers_more f n) ∙ filter-append p (flat_map f (range_with_len 0 n)) (f n)
