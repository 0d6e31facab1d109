-- What a list is once its items were lent, and facts along equations.
use Rattle.std.proofs.Common.{◌≡◌, ◌∙◌, ℕ, List, ◌++◌, length, take, drop, sym, ap, subst}
use Rattle.std.proofs.Math.Seq.{take-append_seam}

-- the items that came back
pub items_back : {X : Type 0} (old items : List X) → length items ≡ length old → take (length old) (items ++ drop (length items) old) ≡ items
items_back old items size = ap (λ (n : ℕ). take n (items ++ drop (length items) old)) (sym size) ∙ take-append_seam items (drop (length items) old)

-- a fact of four values is one of four equal values
pub along : {A B C D : Type 0} (P : A → B → C → D → Type 0) (a a' : A) (b b' : B) (c c' : C) (d d' : D) → a ≡ a' → b ≡ b' → c ≡ c' → d ≡ d' → P a b c d → P a' b' c' d'
along P a a' b b' c c' d d' same_a same_b same_c same_d h =
    subst (λ x. P x b' c' d') same_a (subst (λ x. P a x c' d') same_b (subst (λ x. P a b x d') same_c (subst (λ x. P a b c x) same_d h)))
