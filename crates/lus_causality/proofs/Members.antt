-- Sets of numbers as sorted lists.
use Rattle.std.proofs.Common.{◌≡◌, ◌⊎◌, inl, inr, ℕ, ◌<◌, ◌≤◌, List, [], ◌∷◌, refl, sym, subst, arith}
use Rattle.std.specs.Ordering.{nat_cmp, match_ordering}
use Rattle.std.specs.BTreeSet.{insert_key}
use Rattle.std.specs.List.{All, Contains}
use Rattle.std.specs.declared.cmp.Ordering.{Ordering}
use Rattle.std.specs.declared.cmp.Ordering.TheVariants.{Less, Equal, Greater}
use Rattle.std.specs.BTreeMap.Range.{IsLtBy}
use Rattle.std.proofs.lemmas.Map.Lookups.{exact_unsigned}
use Rattle.lus_causality.specs.Sets.{IsAdded, IsTaken}
use Rattle.lus_causality.proofs.Places.{first as at_first, later, none, parts}
use Rattle.std.proofs.lemmas.Cmp.{ranked}

in_insert : (old : List ℕ) (x : ℕ) → IsAdded old x (insert_key nat_cmp old x)
in_insert [] x = record { each = λ q h. one q (parts q x [] h); added = at_first x x [] refl; kept = λ q h. none q h }
  where
    one : (q : ℕ) → (x ≡ q) ⊎ Contains [] q → (q ≡ x) ⊎ Contains [] q
    one q (inl same) = inl (sym same)
    one q (inr h) = inr h
in_insert (y ∷ old) x = by_order (nat_cmp x y) refl (in_insert old x)
  where
    new_or : (q : ℕ) → (x ≡ q) ⊎ Contains (y ∷ old) q → (q ≡ x) ⊎ Contains (y ∷ old) q
    new_or q (inl same) = inl (sym same)
    new_or q (inr h) = inr h

    push : (q : ℕ) → (q ≡ x) ⊎ Contains old q → (q ≡ x) ⊎ Contains (y ∷ old) q
    push q (inl same) = inl same
    push q (inr k) = inr (later q y old k)

    behind : IsAdded old x (insert_key nat_cmp old x) → (q : ℕ) → (y ≡ q) ⊎ Contains (insert_key nat_cmp old x) q → (q ≡ x) ⊎ Contains (y ∷ old) q
    behind rest q (inl same) = inr (at_first q y old same)
    behind rest q (inr h) = push q (rest.each q h)

    still : IsAdded old x (insert_key nat_cmp old x) → (q : ℕ) → (y ≡ q) ⊎ Contains old q → Contains (y ∷ insert_key nat_cmp old x) q
    still rest q (inl same) = at_first q y (insert_key nat_cmp old x) same
    still rest q (inr h) = later q y (insert_key nat_cmp old x) (rest.kept q h)

    by_order : (o : Ordering) → nat_cmp x y ≡ o → IsAdded old x (insert_key nat_cmp old x) → IsAdded (y ∷ old) x (match_ordering o (x ∷ y ∷ old) (y ∷ old) (y ∷ insert_key nat_cmp old x))
    by_order Less is rest = record { each = λ q h. new_or q (parts q x (y ∷ old) h); added = at_first x x (y ∷ old) refl; kept = λ q h. later q x (y ∷ old) h }
    by_order Equal is rest = record { each = λ q h. inr h; added = at_first x y old (sym (exact_unsigned x y is)); kept = λ q h. h }
    by_order Greater is rest = record { each = λ q h. behind rest q (parts q y (insert_key nat_cmp old x) h); added = later x y (insert_key nat_cmp old x) rest.added; kept = λ q h. still rest q (parts q y old h) }

pub is_added : (old : List ℕ) (x : ℕ) (new : List ℕ) → new ≡ insert_key nat_cmp old x → IsAdded old x new
is_added old x new is = subst (IsAdded old x) (sym is) (in_insert old x)

larger : (x : ℕ) (xs : List ℕ) → All (IsLtBy nat_cmp x) xs → (q : ℕ) → Contains xs q → x < q
larger x xs all q k = ranked x q Less (sym (subst (λ z. nat_cmp x z ≡ Less) k.2 (all k.0 q k.1)))

pub is_taken : (old : List ℕ) (x : ℕ) (new : List ℕ) → old ≡ x ∷ new → All (IsLtBy nat_cmp x) new → IsTaken old x new
is_taken old x new is above = subst (λ l. IsTaken l x new) (sym is) (record {
  had = at_first x x new refl;
  least = λ q h. least q (parts q x new h);
  gone = λ h. let k = larger x new above x h in absurd (omega (arith, k));
  each = λ q h. later q x new h;
  kept = λ q h. kept q (parts q x new h);
})
  where
    least : (q : ℕ) → (x ≡ q) ⊎ Contains new q → x ≤ q
    least q (inl same) = omega (arith, same)
    least q (inr h) = let k = larger x new above q h in omega (arith, k)

    kept : (q : ℕ) → (x ≡ q) ⊎ Contains new q → (q ≡ x) ⊎ Contains new q
    kept q (inl same) = inl (sym same)
    kept q (inr h) = inr h
