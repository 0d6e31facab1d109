-- Names that differ, by places that are sorted by name.
use Rattle.std.proofs.Common.{◌≡◌, ◌≢◌, ◌↔◌, ℕ, zero, suc, ◌+◌, ◌<◌, ◌≤◌, List, [], ◌∷◌, length, map, get_or, refl, ap, sym, ◌∙◌, subst, arith, AllPairs, false, true≢false}
use Rattle.std.specs.Cmp.Lexicographic.{slice_cmp}
use Rattle.std.specs.declared.cmp.Ordering.{Ordering}
use Rattle.std.specs.declared.cmp.Ordering.TheVariants.{Less, Equal, Greater}
use Rattle.std.specs.List.Sorted.{IsPermutation, IsSortedByKey}
use Rattle.std.specs.Ordering.{is_lt, nat_cmp, ordering_reverse}
use Rattle.std.specs.Str.{bytes_eq}
use Rattle.std.proofs.lemmas.Cmp.{nat_list_cmp_total, nat_list_eq_equiv}
use Rattle.std.proofs.lemmas.List.{ext_get_or, get_or-map, length-map}
use Rattle.std.proofs.lemmas.List.Sorted.{ranks_by, sorted_far, IsPermutation-map, IsPermutation-sym}
use Rattle.std.proofs.lemmas.Map.Keys.{IsDistinct-IsPermutation}
use Rattle.std.proofs.lemmas.Map.Lookups.{exact_bytes}
use Rattle.std.proofs.lemmas.Map.Made.{AllPairs-from_IsDistinct, IsDistinct-from_AllPairs}
use Rattle.std.proofs.lemmas.Slice.Eq.{bytes_eq-Decides}
use Rattle.op_network.specs.declared.edge.Edge.{Edge}
use Rattle.op_network.specs.Valid.{name_at, NeighboursDiffer}

abbrev name_of : Edge → List ℕ
name_of edge = edge.name

name_read : (edges : List Edge) (i : ℕ) → name_at edges i ≡ get_or (map name_of edges) i []
name_read [] i = refl
name_read (edge ∷ edges) zero = refl
name_read (edge ∷ edges) (suc i) = name_read edges i

-- the names at places that are numbered off are those of the edges
names_in_order : (edges : List Edge) (places : List ℕ) → length places ≡ length edges → ((k : ℕ) → k < length places → get_or places k 0 ≡ k) → map (name_at edges) places ≡ map name_of edges
names_in_order edges places long numbered =
    let here = length-map places (name_at edges) in
    let there = length-map edges name_of in
    ext_get_or [] (map (name_at edges) places) (map name_of edges) (here ∙ long ∙ sym there) (λ i below.
    let within : i < length places = omega (arith, here) in
    get_or-map (name_at edges) places i 0 [] within ∙ ap (name_at edges) (numbered i within) ∙ name_read edges i)

pairs_map : {X Y : Type 0} (f : X → Y) (xs : List X) → AllPairs (λ a b. f a ≢ f b) xs → AllPairs (λ a b. a ≢ b) (map f xs)
pairs_map f [] h i j d lt within = absurd (omega arith)
pairs_map f (x ∷ xs) h i j d lt within =
    let inside : j < length (x ∷ xs) = omega (arith, length-map (x ∷ xs) f) in
    let before : i < length (x ∷ xs) = omega arith in
    λ same. h i j x lt inside (sym (get_or-map f (x ∷ xs) i x d before) ∙ same ∙ get_or-map f (x ∷ xs) j x d inside)

map_pairs : {X Y : Type 0} (f : X → Y) (xs : List X) → AllPairs (λ a b. a ≢ b) (map f xs) → AllPairs (λ a b. f a ≢ f b) xs
map_pairs f xs h i j d lt within =
    let there : j < length (map f xs) = omega (arith, length-map xs f) in
    let before : i < length xs = omega arith in
    λ same. h i j (f d) lt there (get_or-map f xs i d (f d) before ∙ same ∙ sym (get_or-map f xs j d (f d) within))

-- names that differ still do in another order
moved_apart : (xs ys : List (List ℕ)) → IsPermutation xs ys → AllPairs (λ a b. a ≢ b) xs → AllPairs (λ a b. a ≢ b) ys
moved_apart xs ys moved h = AllPairs-from_IsDistinct bytes_eq-Decides ys (IsDistinct-IsPermutation bytes_eq nat_list_eq_equiv.symm xs ys moved (IsDistinct-from_AllPairs bytes_eq-Decides xs h))

alike_by : (xs ys : List ℕ) (o : Ordering) → slice_cmp nat_cmp xs ys ≡ o → is_lt o ≡ false → is_lt (ordering_reverse o) ≡ false → xs ≡ ys
alike_by xs ys Less is a b = absurd (true≢false a)
alike_by xs ys Equal is a b = exact_bytes xs ys is
alike_by xs ys Greater is a b = absurd (true≢false b)

-- names of which neither is below the other are one
alike : (xs ys : List ℕ) → is_lt (slice_cmp nat_cmp xs ys) ≡ false → is_lt (slice_cmp nat_cmp ys xs) ≡ false → xs ≡ ys
alike xs ys a b = alike_by xs ys (slice_cmp nat_cmp xs ys) refl a (ap is_lt (sym (nat_list_cmp_total.antisymm ys xs)) ∙ b)

-- of sorted places whose neighbours have different names each two have
sorted_apart : (name : ℕ → List ℕ) (places : List ℕ) → IsSortedByKey name (slice_cmp nat_cmp) places
    → ((k d : ℕ) → k + 1 < length places → name (get_or places k d) ≢ name (get_or places (k + 1) d)) → AllPairs (λ a b. name a ≢ name b) places
sorted_apart name places sorted differ i j d lt within same =
    let first : i + 1 < length places = omega arith in
    let on : i + 1 ≤ j = omega arith in
    let far = sorted_far (λ a b. is_lt (slice_cmp nat_cmp (name a) (name b))) (ranks_by nat_list_cmp_total name) places sorted (i + 1) j d on within in
    differ i d first (alike (name (get_or places i d)) (name (get_or places (i + 1) d))
    (subst (λ x. is_lt (slice_cmp nat_cmp x (name (get_or places (i + 1) d))) ≡ false) (sym same) far)
    (sorted i d (omega arith) first))

-- neighbours differ in name just where all edges do
pub differ_by_neighbours : (edges : List Edge) (old new : List ℕ) → length old ≡ length edges → ((k : ℕ) → k < length old → get_or old k 0 ≡ k) → IsPermutation old new → IsSortedByKey (name_at edges) (slice_cmp nat_cmp) new
    → NeighboursDiffer edges new ↔ AllPairs (λ (a b : Edge). a.name ≢ b.name) edges
differ_by_neighbours edges old new long numbered moved sorted =
    let order = names_in_order edges old long numbered in
    let there = IsPermutation-map (name_at edges) old new moved in
    let back = IsPermutation-sym (map (name_at edges) old) (map (name_at edges) new) there in (
      (λ h. map_pairs name_of edges (subst (AllPairs (λ a b. a ≢ b)) order (moved_apart _ _ back (pairs_map (name_at edges) new (sorted_apart (name_at edges) new sorted h))))),
      (λ h k d below. map_pairs (name_at edges) new (moved_apart _ _ there (subst (AllPairs (λ a b. a ≢ b)) (sym order) (pairs_map name_of edges h))) k (k + 1) d (omega arith) below),
    )
