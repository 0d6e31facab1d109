-- What holds of each element, or of each two, of a list, by places.
use Rattle.std.proofs.Common.{◌≢◌, inl, inr, ℕ, zero, suc, ◌+◌, ◌<◌, ◌≤◌, List, [], ◌∷◌, ◌++◌, length, map, sym, ap, subst, ◌∙◌, arith}
use Rattle.std.proofs.lemmas.List.Kept.{AllPairs-cons}
use Rattle.std.specs.List.{AllByRecursion}
use Rattle.std.specs.Prelude.{All, AllPairs}
use Rattle.op_network.specs.declared.edge.EdgeId.{EdgeId}
use Rattle.lus_types.specs.Calls.{In, here, there}
use Rattle.lus_types.specs.Names.{Name}
use Rattle.lus_types.specs.ProgramTypes.{AreDistinct}
use Rattle.lus_types.proofs.FineHeaders.{in_cases}
use Rattle.node_expand.specs.Fragments.{edge}
use Rattle.node_expand.specs.Instances.{places_from}
use Rattle.node_expand.proofs.Lists.{all_from_in}

pub all_index : {A : Type 0} (P : A → Type 0) (xs : List A) → AllByRecursion P xs → All P xs
all_index P [] all k d h = absurd (omega arith)
all_index P (x ∷ xs) all zero d h = all.0
all_index P (x ∷ xs) all (suc k) d h = all_index P xs all.1 k d (omega arith)

pub no_pairs : {A : Type 0} (R : A → A → Type 0) → AllPairs R []
no_pairs R i j d h k = absurd (omega arith)

-- different names in different places
pub distinct_pairs : (xs : List Name) → AreDistinct xs → AllPairs (λ a b. a ≢ b) xs
distinct_pairs [] h = no_pairs (λ a b. a ≢ b)
distinct_pairs (x ∷ xs) h = AllPairs-cons (λ a b. a ≢ b) x xs
    (all_index (λ y. x ≢ y) xs (all_from_in (λ y. x ≢ y) xs (λ y i e. h.0 (subst (λ z. In z xs) (sym e) i)))) (distinct_pairs xs h.1)

-- ---- rising places

-- each is above those before it; the first from some place on, the last below another
abbrev pub Rising : ℕ → ℕ → List ℕ → Type 0
Rising low high [] = low ≤ high
Rising low high (p ∷ ps) = (low ≤ p) × Rising (suc p) high ps

pub rising_from : (low mid high : ℕ) (ps : List ℕ) → low ≤ mid → Rising mid high ps → Rising low high ps
rising_from low mid high [] e h = omega arith
rising_from low mid high (p ∷ ps) e h = (omega (arith, h.0), h.1)

pub rising_to : (low mid high : ℕ) (ps : List ℕ) → mid ≤ high → Rising low mid ps → Rising low high ps
rising_to low mid high [] e h = omega arith
rising_to low mid high (p ∷ ps) e h = (h.0, rising_to (suc p) mid high ps e h.1)

pub rising_append : (low mid high : ℕ) (ps qs : List ℕ) → Rising low mid ps → Rising mid high qs → Rising low high (ps ++ qs)
rising_append low mid high [] qs h k = rising_from low mid high qs h k
rising_append low mid high (p ∷ ps) qs h k = (h.0, rising_append (suc p) mid high ps qs h.1 k)

pub rising_places : {A : Type 0} (next : ℕ) (xs : List A) → Rising next (next + length xs) (places_from next xs)
rising_places next [] = omega arith
rising_places next (x ∷ xs) = (omega arith, rising_to (suc next) (suc next + length xs) (next + suc (length xs)) (places_from (suc next) xs) (omega arith) (rising_places (suc next) xs))

pub rising_low : (low high : ℕ) (ps : List ℕ) → Rising low high ps → AllByRecursion (λ q. low ≤ q) ps
rising_low low high [] h = tt
rising_low low high (p ∷ ps) h = (h.0, weaker (suc p) low ps (omega (arith, h.0)) (rising_low (suc p) high ps h.1))
  where
    weaker : (m n : ℕ) (qs : List ℕ) → n ≤ m → AllByRecursion (λ q. m ≤ q) qs → AllByRecursion (λ q. n ≤ q) qs
    weaker m n [] e all = tt
    weaker m n (q ∷ qs) e all = (omega (arith, all.0), weaker m n qs e all.1)

edges_all : (P : EdgeId → Type 0) (ps : List ℕ) → AllByRecursion (λ p. P (edge p)) ps → AllByRecursion P (map edge ps)
edges_all P [] all = tt
edges_all P (p ∷ ps) all = (all.0, edges_all P ps all.1)

pub edges_index : (P : EdgeId → Type 0) (ps : List ℕ) → AllByRecursion (λ p. P (edge p)) ps → All P (map edge ps)
edges_index P ps all = all_index P (map edge ps) (edges_all P ps all)

pub rising_order : (low high : ℕ) (ps : List ℕ) → Rising low high ps → AllPairs (λ (a b : EdgeId). a.0 < b.0) (map edge ps)
rising_order low high [] h = no_pairs (λ (a b : EdgeId). a.0 < b.0)
rising_order low high (p ∷ ps) h = AllPairs-cons (λ (a b : EdgeId). a.0 < b.0) (edge p) (map edge ps)
    (edges_index (λ (e : EdgeId). p < e.0) ps (rising_low (suc p) high ps h.1)) (rising_order (suc p) high ps h.1)

pub rising_differ : (low high : ℕ) (ps : List ℕ) → Rising low high ps → AllPairs (λ (a b : EdgeId). a ≢ b) (map edge ps)
rising_differ low high ps h i j d less within same =
    let order = rising_order low high ps h i j d less within in
    let places = ap (λ (e : EdgeId). e.0) same in omega (arith, order, places)

-- ---- places of names

-- names whose places rise have different places
rising_in : (f : Name → ℕ) (low high : ℕ) (xs : List Name) → Rising low high (map f xs) → (x : Name) → In x xs → low ≤ f x
rising_in f low high [] h x i = elim i [ ]
rising_in f low high (y ∷ xs) h x i = elim (in_cases i) [
  | inl same ↦ subst (λ z. low ≤ f z) (sym same) h.0
  | inr j ↦ let above = rising_in f (suc (f y)) high xs h.1 x j in omega (arith, above, h.0)
]

pub rising_apart : (f : Name → ℕ) (low high : ℕ) (xs : List Name) → Rising low high (map f xs) → (x y : Name) → In x xs
    → In y xs → x ≢ y → f x ≢ f y
rising_apart f low high [] h x y i j d e = elim i [ ]
rising_apart f low high (z ∷ xs) h x y i j d e = elim (in_cases i) [
  | inl left ↦ elim (in_cases j) [
    | inl right ↦ d (left ∙ sym right)
    | inr k ↦ let above = rising_in f (suc (f z)) high xs h.1 y k in let here' = ap f left in omega (arith, above, here', e)
  ]
  | inr l ↦ elim (in_cases j) [
    | inl right ↦ let above = rising_in f (suc (f z)) high xs h.1 x l in let here' = ap f right in omega (arith, above, here', e)
    | inr k ↦ rising_apart f (suc (f z)) high xs h.1 x y l k d e
  ]
]

-- different names at different places
pub places_differ : (f : Name → ℕ) (xs : List Name) → AreDistinct xs
    → ((x y : Name) → In x xs → In y xs → x ≢ y → f x ≢ f y) → AllPairs (λ (a b : EdgeId). a ≢ b) (map edge (map f xs))
places_differ f [] d apart = no_pairs (λ (a b : EdgeId). a ≢ b)
places_differ f (x ∷ xs) d apart = AllPairs-cons (λ (a b : EdgeId). a ≢ b) (edge (f x)) (map edge (map f xs))
    (edges_index (λ (e : EdgeId). edge (f x) ≢ e) (map f xs) (each xs (λ y i e. apart x y here (there i) (λ same. d.0 (subst (λ z. In z xs) (sym same) i)) (ap (λ (e : EdgeId). e.0) e))))
    (places_differ f xs d.1 (λ y z i j. apart y z (there i) (there j)))
  where
    each : (ys : List Name) → ((y : Name) → In y ys → edge (f x) ≢ edge (f y)) → AllByRecursion (λ p. edge (f x) ≢ edge p) (map f ys)
    each [] h = tt
    each (y ∷ ys) h = (h y here, each ys (λ z i. h z (there i)))
