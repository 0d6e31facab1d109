-- Cycles: from any of their edges, what leads to an edge, and why there is one where no edge can be taken.
use Rattle.std.proofs.Common.{◌≡◌, ◌≢◌, ◌⊎◌, inl, inr, ⊎_elim, ℕ, suc, zero, ◌+◌, ◌<◌, ◌≤◌, List, [], ◌∷◌, ◌++◌, length, refl, sym, ap, ◌∙◌, subst, arith}
use Rattle.std.proofs.lemmas.Bool.{cases_eq}
use Rattle.std.specs.List.{AllPairs, Contains}
use Rattle.op_network.specs.declared.edge.EdgeId.{EdgeId}
use Rattle.op_network.specs.declared.edge.Edge.{Edge}
use Rattle.lus_causality.specs.Causality.{operands_now, Leads, IsCycle, IsOnCycle}
use Rattle.lus_causality.proofs.Places.{first as at_first, later, none, parts}

joined : (edges : List Edge) (a : EdgeId) (way : List EdgeId) (b : EdgeId) (way' : List EdgeId) (c : EdgeId) → Leads edges a way b → Leads edges b way' c → Leads edges a (way ++ b ∷ way') c
joined edges a [] b way' c h k = (h, k)
joined edges a (x ∷ way) b way' c h k = (h.0, joined edges x way b way' c h.1 k)

parted : (edges : List Edge) (a : EdgeId) (way : List EdgeId) (b e : EdgeId) → Leads edges a way b → Contains way e → (front : List EdgeId) × (back : List EdgeId) × Leads edges a front e × Leads edges e back b
parted edges a [] b e h i = none e i
parted edges a (x ∷ way) b e h i = elim (parts e x way i) [
  | inl same ↦ ([], way, subst (λ y. Contains (operands_now edges y) a) same h.0, subst (λ y. Leads edges y way b) same h.1)
  | inr k ↦ let p = parted edges x way b e h.1 k in (x ∷ p.0, p.1, (h.0, p.2), p.3)
]

-- a cycle can be read from any of its edges
pub from_any : (edges : List Edge) (e : EdgeId) → IsOnCycle edges e → (way : List EdgeId) × Leads edges e way e
from_any edges e h = go h.0 h.1 h.2
  where
    go : (cycle : List EdgeId) → IsCycle edges cycle → Contains cycle e → (way : List EdgeId) × Leads edges e way e
    go [] is i = elim is [ ]
    go (x ∷ way) is i = elim (parts e x way i) [
      | inl same ↦ (way, subst (λ y. Leads edges y way y) same is)
      | inr k ↦ let p = parted edges x way x e is k in (p.1 ++ x ∷ p.0, joined edges e p.1 x p.0 e p.3 p.2)
    ]

pub on_cycle : (edges : List Edge) (e : EdgeId) (way : List EdgeId) → Leads edges e way e → IsOnCycle edges e
on_cycle edges e way h = (e ∷ way, h, at_first e e way refl)

-- each edge of the list is an operand of the next
abbrev pub IsWalk : List Edge → List EdgeId → Type 0
IsWalk edges [] = Unit {0}
IsWalk edges (a ∷ []) = Unit {0}
IsWalk edges (a ∷ b ∷ walk) = Contains (operands_now edges b) a × IsWalk edges (b ∷ walk)

-- an operand of the first of a walk that stands in it leads to itself
returning : (edges : List Edge) (o a h : EdgeId) (walk : List EdgeId) → Contains (operands_now edges h) a → IsWalk edges (h ∷ walk) → Contains (h ∷ walk) o → (way : List EdgeId) × Leads edges a way o
returning edges o a h [] is w i = elim (parts o h [] i) [
  | inl same ↦ ([], subst (λ y. Contains (operands_now edges y) a) same is)
  | inr k ↦ none o k
]
returning edges o a h (g ∷ walk) is w i = elim (parts o h (g ∷ walk) i) [
  | inl same ↦ ([], subst (λ y. Contains (operands_now edges y) a) same is)
  | inr k ↦ let p = returning edges o h g walk w.0 w.1 k in (h ∷ p.0, (is, p.1))
]

not_there : (o x : EdgeId) (xs : List EdgeId) → o.0 ≢ x.0 → (Contains xs o → ⊥) → Contains (x ∷ xs) o → ⊥
not_there o x xs apart new h = ⊎_elim (λ same. apart (ap (λ (y : EdgeId). y.0) (sym same))) (λ k. new k) (parts o x xs h)

pub member : (o : EdgeId) (xs : List EdgeId) → Contains xs o ⊎ (Contains xs o → ⊥)
member o [] = inr (λ h. none o h)
member o (x ∷ xs) = cases (cases_eq o.0 x.0) (member o xs)
  where
    cases : (o.0 ≡ x.0) ⊎ (o.0 ≢ x.0) → Contains xs o ⊎ (Contains xs o → ⊥) → Contains (x ∷ xs) o ⊎ (Contains (x ∷ xs) o → ⊥)
    cases (inl same) rest = inl (at_first o x xs (ap (λ n. record { 0 = n }) (sym same)))
    cases (inr apart) (inl h) = inl (later o x xs h)
    cases (inr apart) (inr new) = inr (not_there o x xs apart new)

-- no edge stands twice
abbrev pub AreDistinct : List EdgeId → Type 0
AreDistinct xs = AllPairs (λ (a b : EdgeId). a ≢ b) xs

-- the same, edge by edge
abbrev AreApart : List EdgeId → Type 0
AreApart [] = Unit {0}
AreApart (x ∷ xs) = (Contains xs x → ⊥) × AreApart xs

apart_of : (xs : List EdgeId) → AreDistinct xs → AreApart xs
apart_of [] h = tt
apart_of (x ∷ xs) h = (
  (λ i. h 0 (suc i.0) x (omega arith) (let lt = i.1 in omega (arith, lt)) (sym i.2)),
  apart_of xs (λ i j d lt within. h (suc i) (suc j) d (omega (arith, lt)) (omega (arith, within))),
)

-- different edges below n are at most n
without : (x : EdgeId) (n : ℕ) (xs : List EdgeId) → x.0 ≡ n → (Contains xs x → ⊥) → ((o : EdgeId) → Contains xs o → o.0 < suc n) → (o : EdgeId) → Contains xs o → o.0 < n
without x n xs is new all o h = let lt = all o h in ⊎_elim (λ same. absurd (new (subst (λ y. Contains xs y) (let e : o ≡ x = ap (λ k. record { 0 = k }) (same ∙ sym is) in e) h))) (λ apart. omega (arith, lt, apart)) (cases_eq o.0 n)

removed : (n : ℕ) (xs : List EdgeId) → AreApart xs → ((o : EdgeId) → Contains xs o → o.0 < suc n) → (ys : List EdgeId) × AreApart ys × ((o : EdgeId) → Contains ys o → Contains xs o) × ((o : EdgeId) → Contains ys o → o.0 < n) × (length xs ≤ suc (length ys))
removed n [] apart all = ([], tt, (λ o h. h), (λ o h. none o h), omega arith)
removed n (x ∷ xs) apart all = cases (cases_eq x.0 n) (removed n xs apart.1 (λ o h. all o (later o x xs h)))
  where
    still : (ys : List EdgeId) → ((o : EdgeId) → Contains ys o → Contains xs o) → (o : EdgeId) → Contains (x ∷ ys) o → Contains (x ∷ xs) o
    still ys k o h = ⊎_elim (λ same. at_first o x xs same) (λ i. later o x xs (k o i)) (parts o x ys h)

    low : (ys : List EdgeId) → x.0 ≢ n → ((o : EdgeId) → Contains ys o → o.0 < n) → (o : EdgeId) → Contains (x ∷ ys) o → o.0 < n
    low ys other k o h = ⊎_elim
        (λ same. let lt = all x (at_first x x xs refl) in let is = ap (λ (y : EdgeId). y.0) same in omega (arith, lt, other, is))
        (λ i. k o i)
        (parts o x ys h)

    cases : (x.0 ≡ n) ⊎ (x.0 ≢ n) → (ys : List EdgeId) × AreApart ys × ((o : EdgeId) → Contains ys o → Contains xs o) × ((o : EdgeId) → Contains ys o → o.0 < n) × (length xs ≤ suc (length ys)) → (ys : List EdgeId) × AreApart ys × ((o : EdgeId) → Contains ys o → Contains (x ∷ xs) o) × ((o : EdgeId) → Contains ys o → o.0 < n) × (length (x ∷ xs) ≤ suc (length ys))
    cases (inl same) k = (xs, apart.1, (λ o h. later o x xs h), without x n xs same apart.0 (λ o h. all o (later o x xs h)), omega arith)
    cases (inr other) k = (x ∷ k.0, ((λ h. apart.0 (k.2 x h)), k.1), (λ o h. still k.0 k.2 o h), (λ o h. low k.0 other k.3 o h), (let le = k.4 in omega (arith, le)))

few_apart : (n : ℕ) (xs : List EdgeId) → AreApart xs → ((o : EdgeId) → Contains xs o → o.0 < n) → length xs ≤ n
few_apart zero [] apart all = omega arith
few_apart zero (x ∷ xs) apart all = let lt = all x (at_first x x xs refl) in absurd (omega (arith, lt))
few_apart (suc n) xs apart all = let k = removed n xs apart all in let le = few_apart n k.0 k.1 k.3 in omega (arith, le, k.4)

pub few : (n : ℕ) (xs : List EdgeId) → AreDistinct xs → ((o : EdgeId) → Contains xs o → o.0 < n) → length xs ≤ n
few n xs distinct all = few_apart n xs (apart_of xs distinct) all

-- Where each edge of a set has an operand in the set, one of them lies on a cycle.
module _ (edges : List Edge) (n : ℕ) (Left : EdgeId → Type 0) (within : (e : EdgeId) → Left e → e.0 < n) (more : (e : EdgeId) → Left e → (o : EdgeId) × Contains (operands_now edges e) o × Left o) where
  walked : (fuel : ℕ) (h : EdgeId) (walk : List EdgeId) → n < fuel + length (h ∷ walk) → IsWalk edges (h ∷ walk) → AreApart (h ∷ walk) → ((o : EdgeId) → Contains (h ∷ walk) o → Left o) → (e : EdgeId) × Left e × IsOnCycle edges e
  walked zero h walk long is apart left = let le = few_apart n (h ∷ walk) apart (λ o i. within o (left o i)) in absurd (omega (arith, le, long))
  walked (suc fuel) h walk long is apart left =
      let next = more h (left h (at_first h h walk refl)) in
      elim (member next.0 (h ∷ walk)) [
        | inl back ↦ let k = returning edges next.0 next.0 h walk next.1 is back in (next.0, next.2, on_cycle edges next.0 k.0 k.1)
        | inr fresh ↦ walked fuel next.0 (h ∷ walk) (omega (arith, long)) (next.1, is) (fresh, apart) (λ o i. each next.0 next.2 o i)
      ]
    where
      each : (x : EdgeId) → Left x → (o : EdgeId) → Contains (x ∷ h ∷ walk) o → Left o
      each x is o i = ⊎_elim (λ same. subst Left same is) (λ k. left o k) (parts o x (h ∷ walk) i)

  pub some_cycle : (e : EdgeId) → Left e → (x : EdgeId) × Left x × IsOnCycle edges x
  some_cycle e left = walked n e [] (omega arith) tt ((λ h. none e h), tt) (λ o i. one o i)
    where
      one : (o : EdgeId) → Contains (e ∷ []) o → Left o
      one o i = ⊎_elim (λ same. subst Left same left) (λ k. none o k) (parts o e [] i)

-- what leads to an edge stands in each set that has the edge's operands and those of its own edges
pub closed_has : (edges : List Edge) (e : EdgeId) (Has : EdgeId → Type 0) → ((o : EdgeId) → Contains (operands_now edges e) o → Has o) → ((b : EdgeId) → Has b → (o : EdgeId) → Contains (operands_now edges b) o → Has o) → (a : EdgeId) (way : List EdgeId) → Leads edges a way e → Has a
closed_has edges e Has first next a [] h = first a h
closed_has edges e Has first next a (c ∷ way) h = next c (closed_has edges e Has first next c way h.1) a h.0
