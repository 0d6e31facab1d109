-- There is one sequence.
use Rattle.std.proofs.Common.{◌≡◌, ℕ, suc, zero, ◌+◌, List, [], ◌∷◌, ◌++◌, length, take, refl, sym, ap, ◌∙◌, subst, arith}
use Rattle.std.specs.Prelude.{Option, Some, None, slice_get}
use Rattle.std.specs.List.{Contains}
use Rattle.op_network.specs.declared.edge.EdgeId.{EdgeId}
use Rattle.op_network.specs.declared.edge.Edge.{Edge}
use Rattle.lus_causality.specs.Causality.{IsLeast, IsSequence}
use Rattle.lus_causality.proofs.Reading.{take_whole}

take_none : (xs : List EdgeId) (i : ℕ) → slice_get xs i ≡ None → take i xs ≡ xs
take_none [] zero is = refl
take_none [] (suc i) is = refl
take_none (x ∷ xs) zero is = absurd (cc)
take_none (x ∷ xs) (suc i) is = ap (λ l. x ∷ l) (take_none xs i is)

take_end : (xs : List EdgeId) (i : ℕ) → slice_get xs i ≡ None → take (suc i) xs ≡ xs
take_end [] i is = refl
take_end (x ∷ xs) zero is = absurd (cc)
take_end (x ∷ xs) (suc i) is = ap (λ l. x ∷ l) (take_end xs i is)

take_some : (xs : List EdgeId) (i : ℕ) (x : EdgeId) → slice_get xs i ≡ Some x → take (suc i) xs ≡ take i xs ++ x ∷ []
take_some [] i x is = absurd (cc)
take_some (y ∷ xs) zero x is = let k : y ≡ x = cc in front xs ∙ ap (λ z. z ∷ []) k
  where
    front : (xs : List EdgeId) → take 1 (y ∷ xs) ≡ y ∷ []
    front [] = refl
    front (z ∷ xs) = refl
take_some (y ∷ xs) (suc i) x is = ap (λ l. y ∷ l) (take_some xs i x is)

module _ (edges : List Edge) (s t : List EdgeId) (h : IsSequence edges s) (k : IsSequence edges t) where
  one_more : (i : ℕ) (a b : Option EdgeId) → slice_get s i ≡ a → slice_get t i ≡ b → take i s ≡ take i t → take (suc i) s ≡ take (suc i) t
  one_more i None None at_s at_t same = take_end s i at_s ∙ sym (take_none s i at_s) ∙ same ∙ take_none t i at_t ∙ sym (take_end t i at_t)
  one_more i (Some e) None at_s at_t same = absurd ((h.least i e at_s).stands.new (subst (λ l. Contains l e) (sym (take_none t i at_t) ∙ sym same) (k.full e (h.least i e at_s).stands.within)))
  one_more i None (Some f) at_s at_t same = absurd ((k.least i f at_t).stands.new (subst (λ l. Contains l f) (sym (take_none s i at_s) ∙ same) (h.full f (k.least i f at_t).stands.within)))
  one_more i (Some e) (Some f) at_s at_t same =
      let he : IsLeast edges (take i t) e = subst (λ l. IsLeast edges l e) same (h.least i e at_s) in
      let kf = k.least i f at_t in
      let below = he.least f kf.stands in
      let above = kf.least e he.stands in
      let one : e ≡ f = ap (λ n. record { 0 = n }) (let n : e.0 ≡ f.0 = omega (arith, below, above) in n) in
      take_some s i e at_s ∙ ap (λ l. l ++ e ∷ []) same ∙ ap (λ x. take i t ++ x ∷ []) one ∙ sym (take_some t i f at_t)

  fronts : (i : ℕ) → take i s ≡ take i t
  fronts zero = empty s t
    where
      empty : (xs ys : List EdgeId) → take 0 xs ≡ take 0 ys
      empty [] [] = refl
      empty [] (y ∷ ys) = refl
      empty (x ∷ xs) [] = refl
      empty (x ∷ xs) (y ∷ ys) = refl
  fronts (suc i) = one_more i (slice_get s i) (slice_get t i) refl refl (fronts i)

  pub one_sequence : s ≡ t
  one_sequence = sym (take_whole s (length s + length t) (omega arith)) ∙ fronts (length s + length t) ∙ take_whole t (length s + length t) (omega arith)
