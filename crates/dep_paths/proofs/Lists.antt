-- Membership and order of lists.
use Rattle.std.proofs.Common.{◌≡◌, ◌⊎◌, inl, inr, ℕ, zero, suc, ◌+◌, ◌<◌, ◌≤◌, Bool, true, false, cond, List, [], ◌∷◌, ◌++◌, length, map, slice_index_or, refl, ap, sym, ◌∙◌, subst, arith}
use Rattle.std.specs.List.{AllPairs, Contains, flat_map, filter, range_with_len, AllByRecursion}
use Rattle.std.proofs.lemmas.Bool.{cases_lt}
use Rattle.dep_paths.specs.Has.{Has, InOrder}

pub Has-append_left : {X : Type 0} (xs ys : List X) (x : X) → Has xs x → Has (xs ++ ys) x
Has-append_left [] ys x h = absurd h
Has-append_left (y ∷ xs) ys x h = elim h [ inl e ↦ inl e | inr r ↦ inr (Has-append_left xs ys x r) ]

pub Has-append_right : {X : Type 0} (xs ys : List X) (x : X) → Has ys x → Has (xs ++ ys) x
Has-append_right [] ys x h = h
Has-append_right (y ∷ xs) ys x h = inr (Has-append_right xs ys x h)

pub Has-append : {X : Type 0} (xs ys : List X) (x : X) → Has (xs ++ ys) x → Has xs x ⊎ Has ys x
Has-append [] ys x h = inr h
Has-append (y ∷ xs) ys x h = elim h [ inl e ↦ inl (inl e) | inr r ↦ elim (Has-append xs ys x r) [ inl a ↦ inl (inr a) | inr b ↦ inr b ] ]

cond_has : {X : Type 0} (b : Bool) (q : X → Bool) (y x : X) (rest : List X) → q y ≡ b → Has (cond b (y ∷ rest) rest) x → ((y ≡ x) × (q x ≡ true)) ⊎ Has rest x
cond_has true q y x rest is h = elim h [ inl e ↦ inl (e, ap q (sym e) ∙ is) | inr r ↦ inr r ]
cond_has false q y x rest is h = inr h

pub Has-filter : {X : Type 0} (q : X → Bool) (xs : List X) (x : X) → Has (filter q xs) x → Has xs x × (q x ≡ true)
Has-filter q [] x h = absurd h
Has-filter q (y ∷ xs) x h = elim (cond_has (q y) q y x (filter q xs) refl h) [
  | inl e ↦ (inl e.0, e.1)
  | inr r ↦ let k = Has-filter q xs x r in (inr k.0, k.1)
]

has_cond : {X : Type 0} (b : Bool) (y x : X) (rest : List X) → Has rest x → Has (cond b (y ∷ rest) rest) x
has_cond true y x rest h = inr h
has_cond false y x rest h = h

pub filter_has : {X : Type 0} (q : X → Bool) (xs : List X) (x : X) → Has xs x → q x ≡ true → Has (filter q xs) x
filter_has q [] x h passes = absurd h
filter_has q (y ∷ xs) x h passes = elim h [
  | inl e ↦ rw (ap q e ∙ passes) (inl e)
  | inr r ↦ has_cond (q y) y x (filter q xs) (filter_has q xs x r passes)
]

pub Has-map : {X Y : Type 0} (f : X → Y) (xs : List X) (y : Y) → Has (map f xs) y → (x : X) × Has xs x × (f x ≡ y)
Has-map f [] y h = absurd h
Has-map f (x ∷ xs) y h = elim h [
  | inl e ↦ (x, inl refl, e)
  | inr r ↦ let k = Has-map f xs y r in (k.0, inr k.1, k.2)
]

pub map_has : {X Y : Type 0} (f : X → Y) (xs : List X) (x : X) → Has xs x → Has (map f xs) (f x)
map_has f [] x h = absurd h
map_has f (y ∷ xs) x h = elim h [ inl e ↦ inl (ap f e) | inr r ↦ inr (map_has f xs x r) ]

pub Has-flat_map : {X Y : Type 0} (f : X → List Y) (xs : List X) (y : Y) → Has (flat_map f xs) y → (x : X) × Has xs x × Has (f x) y
Has-flat_map f [] y h = absurd h
Has-flat_map f (x ∷ xs) y h = elim (Has-append (f x) (flat_map f xs) y h) [
  | inl a ↦ (x, inl refl, a)
  | inr r ↦ let k = Has-flat_map f xs y r in (k.0, inr k.1, k.2)
]

pub flat_map_has : {X Y : Type 0} (f : X → List Y) (xs : List X) (x : X) (y : Y) → Has xs x → Has (f x) y → Has (flat_map f xs) y
flat_map_has f [] x y h k = absurd h
flat_map_has f (z ∷ xs) x y h k = elim h [
  | inl e ↦ Has-append_left (f z) (flat_map f xs) y (rw e k)
  | inr r ↦ Has-append_right (f z) (flat_map f xs) y (flat_map_has f xs x y r k)
]

here : (a i : ℕ) → a ≤ i → (a ≡ i) ⊎ (a + 1 ≤ i)
here a i h = elim (cases_lt a i) [ inl lt ↦ inr (omega arith) | inr ge ↦ inl (omega arith) ]

pub range_has : (a n i : ℕ) → a ≤ i → i < a + n → Has (range_with_len a n) i
range_has a zero i low high = absurd (omega arith)
range_has a (suc n) i low high = elim (here a i low) [
  | inl e ↦ inl e
  | inr above ↦ inr (range_has (a + 1) n i above (omega arith))
]

pub Has-range : (a n i : ℕ) → Has (range_with_len a n) i → (a ≤ i) × (i < a + n)
Has-range a zero i h = absurd h
Has-range a (suc n) i h = elim h [
  | inl e ↦ (omega arith, omega arith)
  | inr r ↦ let k = Has-range (a + 1) n i r in (omega (arith, k.0), omega (arith, k.1))
]

pub all_has : {X : Type 0} (P : X → Type 0) (xs : List X) → ((x : X) → Has xs x → P x) → AllByRecursion P xs
all_has P [] h = tt
all_has P (x ∷ xs) h = (h x (inl refl), all_has P xs (λ y r. h y (inr r)))

pub has_all : {X : Type 0} (P : X → Type 0) (xs : List X) (x : X) → AllByRecursion P xs → Has xs x → P x
has_all P [] x all h = absurd h
has_all P (y ∷ xs) x all h = elim h [ inl e ↦ subst P e all.0 | inr r ↦ has_all P xs x all.1 r ]

pub InOrder-append : {X : Type 0} (R : X → X → Type 0) (xs ys : List X) → InOrder R xs → InOrder R ys → ((x y : X) → Has xs x → Has ys y → R x y) → InOrder R (xs ++ ys)
InOrder-append R [] ys a b h = b
InOrder-append R (x ∷ xs) ys a b h = (
  all_has (R x) (xs ++ ys) (λ y k. elim (Has-append xs ys y k) [ inl l ↦ has_all (R x) xs y a.0 l | inr r ↦ h x y (inl refl) r ]),
  InOrder-append R xs ys a.1 b (λ z y k l. h z y (inr k) l),
)

order_cond : {X : Type 0} (R : X → X → Type 0) (b : Bool) (x : X) (rest : List X) → AllByRecursion (R x) rest → InOrder R rest → InOrder R (cond b (x ∷ rest) rest)
order_cond R true x rest all h = (all, h)
order_cond R false x rest all h = h

pub InOrder-filter : {X : Type 0} (R : X → X → Type 0) (q : X → Bool) (xs : List X) → InOrder R xs → InOrder R (filter q xs)
InOrder-filter R q [] h = tt
InOrder-filter R q (x ∷ xs) h = order_cond R (q x) x (filter q xs) (all_has (R x) (filter q xs) (λ y k. has_all (R x) xs y h.0 (Has-filter q xs y k).0)) (InOrder-filter R q xs h.1)

pub InOrder-map : {X Y : Type 0} (R : X → X → Type 0) (S : Y → Y → Type 0) (f : X → Y) (xs : List X) → ((x y : X) → R x y → S (f x) (f y)) → InOrder R xs → InOrder S (map f xs)
InOrder-map R S f [] up h = tt
InOrder-map R S f (x ∷ xs) up h = (
  all_has (S (f x)) (map f xs) (λ y k. let p = Has-map f xs y k in subst (S (f x)) p.2 (up x p.0 (has_all (R x) xs p.0 h.0 p.1))),
  InOrder-map R S f xs up h.1,
)

pub InOrder-flat_map : {X Y : Type 0} (R : X → X → Type 0) (S : Y → Y → Type 0) (f : X → List Y) (xs : List X) → ((x y : X) (a b : Y) → R x y → Has (f x) a → Has (f y) b → S a b) → ((x : X) → InOrder S (f x)) → InOrder R xs → InOrder S (flat_map f xs)
InOrder-flat_map R S f [] apart each h = tt
InOrder-flat_map R S f (x ∷ xs) apart each h =
    InOrder-append S (f x) (flat_map f xs) (each x) (InOrder-flat_map R S f xs apart each h.1)
    (λ a b k l. let p = Has-flat_map f xs b l in apart x p.0 a b (has_all (R x) xs p.0 h.0 p.1) k p.2)

pub InOrder-range : (a n : ℕ) → InOrder (λ i j. i < j) (range_with_len a n)
InOrder-range a zero = tt
InOrder-range a (suc n) = (all_has (λ j. a < j) (range_with_len (a + 1) n) (λ j k. omega (arith, (Has-range (a + 1) n j k).0)), InOrder-range (a + 1) n)

pub InOrder-weaker : {X : Type 0} (R S : X → X → Type 0) (xs : List X) → ((x y : X) → Has xs x → Has xs y → R x y → S x y) → InOrder R xs → InOrder S xs
InOrder-weaker R S [] up h = tt
InOrder-weaker R S (x ∷ xs) up h =
    (all_has (S x) xs (λ y k. up x y (inl refl) (inr k) (has_all (R x) xs y h.0 k)), InOrder-weaker R S xs (λ a b k l. up a b (inr k) (inr l)) h.1)

first : {X : Type 0} (R : X → X → Type 0) (x y : X) (xs ys : List X) → ((x y : X) → R x y → R y x → ⊥) → InOrder R (x ∷ xs) → InOrder R (y ∷ ys) → Has (y ∷ ys) x → Has (x ∷ xs) y → x ≡ y
first R x y xs ys asym a b h k = elim h [
  | inl e ↦ sym e
  | inr l ↦ elim k [ inl e ↦ e | inr r ↦ absurd (asym x y (has_all (R x) xs y a.0 r) (has_all (R y) ys x b.0 l)) ]
]

tail : {X : Type 0} (R : X → X → Type 0) (x y : X) (xs ys : List X) (z : X) → ((x y : X) → R x y → R y x → ⊥) → x ≡ y → InOrder R (x ∷ xs) → Has (y ∷ ys) z → Has xs z → Has ys z
tail R x y xs ys z asym e a h k = elim h [
  | inl f ↦ let self : R x x = subst (R x) (sym (e ∙ f)) (has_all (R x) xs z a.0 k) in absurd (asym x x self self)
  | inr l ↦ l
]

-- at most one list in an order has given items
pub same_items : {X : Type 0} (R : X → X → Type 0) (xs ys : List X) → ((x y : X) → R x y → R y x → ⊥) → InOrder R xs → InOrder R ys → ((x : X) → Has xs x → Has ys x) → ((x : X) → Has ys x → Has xs x) → xs ≡ ys
same_items R [] [] asym a b to from = refl
same_items R [] (y ∷ ys) asym a b to from = absurd (from y (inl refl))
same_items R (x ∷ xs) [] asym a b to from = absurd (to x (inl refl))
same_items R (x ∷ xs) (y ∷ ys) asym a b to from =
    let e : x ≡ y = first R x y xs ys asym a b (to x (inl refl)) (from y (inl refl)) in
    let rest : xs ≡ ys = same_items R xs ys asym a.1 b.1
    (λ z h. tail R x y xs ys z asym e a (to z (inr h)) h)
    (λ z h. tail R y x ys xs z asym (sym e) b (from z (inr h)) h) in
    cc

-- the library's words
pub Contains-has : {X : Type 0} (xs : List X) (x : X) → Has xs x → Contains xs x
Contains-has [] x h = absurd h
Contains-has (y ∷ xs) x h = elim h [
  | inl e ↦ (0, omega arith, e)
  | inr r ↦ let k = Contains-has xs x r in (suc k.0, omega (arith, k.1), k.2)
]

pub has_get_or : {X : Type 0} (xs : List X) (i : ℕ) (d : X) → i < length xs → Has xs (slice_index_or xs i d)
has_get_or [] i d h = absurd (omega arith)
has_get_or (x ∷ xs) zero d h = inl refl
has_get_or (x ∷ xs) (suc i) d h = inr (has_get_or xs i d (omega arith))

pub has_contains : {X : Type 0} (xs : List X) (x : X) → Contains xs x → Has xs x
has_contains xs x h = subst (Has xs) h.2 (has_get_or xs h.0 x h.1)

pub pairs_in_order : {X : Type 0} (R : X → X → Type 0) (xs : List X) → InOrder R xs → AllPairs R xs
pairs_in_order R [] h i j d lt below = absurd (omega arith)
pairs_in_order R (x ∷ xs) h zero zero d lt below = absurd (omega arith)
pairs_in_order R (x ∷ xs) h zero (suc j) d lt below = has_all (R x) xs (slice_index_or xs j d) h.0 (has_get_or xs j d (omega arith))
pairs_in_order R (x ∷ xs) h (suc i) zero d lt below = absurd (omega arith)
pairs_in_order R (x ∷ xs) h (suc i) (suc j) d lt below = pairs_in_order R xs h.1 i j d (omega arith) (omega arith)

pub in_order_pairs : {X : Type 0} (R : X → X → Type 0) (xs : List X) → AllPairs R xs → InOrder R xs
in_order_pairs R [] h = tt
in_order_pairs R (x ∷ xs) h = (
  all_has (R x) xs (λ y k. let c = Contains-has xs y k in subst (R x) c.2 (h 0 (suc c.0) y (omega arith) (omega (arith, c.1)))),
  in_order_pairs R xs (λ i j d lt below. h (suc i) (suc j) d (omega arith) (omega arith)),
)
