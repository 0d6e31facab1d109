-- Reading up to a limit.
use Rattle.std.proofs.Common.{arith, ◌≡◌, ◌∙◌, ap, subst, ℕ, ◌+◌, ◌^◌, ◌<◌, ◌≤◌, min, List, [], ◌++◌, length, take, Option, Some, None, IfSome}
use Rattle.std.specs.Option.{option_map}
use Rattle.std.proofs.lemmas.List.{length-take, take_all}

-- where fewer items come than the limit, they are all, and a limit above gives the same
pub take_below : (left : List ℕ) (limit more : ℕ) → length (take limit left) < limit → limit ≤ more → take limit left ≡ take more left
take_below left limit more short within = grind (arith, length-take, take_all)

-- a list is shorter than 2^63, so the greatest number is limit enough
pub first_of : (left : List ℕ) (max limit : ℕ) → limit ≡ min (max + 1) 0xFFFF_FFFF_FFFF_FFFF → length (take limit left) < 2 ^ 63 → take limit left ≡ take (max + 1) left
first_of left max limit is small = grind (arith, take_below)

pub within_limit : (left items : List ℕ) (limit : ℕ) → items ≡ take limit left → length items ≤ limit
within_limit left items limit is = grind (arith, length-take)

-- what was added to nothing by a read up to the limit, and cut there, are the first items
pub first_known : (left : Option (List ℕ)) (max limit bound : ℕ) (before items kept : List ℕ) → bound ≡ min (max + 1) 0xFFFF_FFFF_FFFF_FFFF → limit ≡ bound → before ≡ [] → length items < 2 ^ 63 → IfSome (option_map (take limit) left) (λ xs. items ≡ before ++ xs) → kept ≡ take bound items → IfSome left (λ xs. kept ≡ take (max + 1) xs)
first_known None max limit bound before items kept is same empty small read cut = tt
first_known (Some xs) max limit bound before items kept is same empty small read cut =
    let all : items ≡ take bound xs = read ∙ ap (λ old. old ++ take limit xs) empty ∙ ap (λ n. take n xs) same in
    cut ∙ take_all bound items (within_limit xs items bound all) ∙ all ∙ first_of xs max bound is (subst (λ (l : List ℕ). length l < 2 ^ 63) all small)
