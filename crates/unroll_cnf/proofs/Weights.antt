-- A sum over the edges of a causal list is at most the sum over all edges.
use Rattle.std.proofs.Common.{◌≡◌, ℕ, zero, suc, ◌+◌, ◌<◌, ◌≤◌, true, false, List, [], ◌∷◌, ◌++◌, length, map, refl, sym, ap₂, subst, arith, nat_eq, inl, inr}
use Rattle.std.specs.Prelude.{slice_get, sum, if◌then◌else◌}
use Rattle.std.specs.List.{Contains}
use Rattle.std.specs.Option.{option_map_or}
use Rattle.std.proofs.lemmas.Bool.{cases_Bool}
use Rattle.std.proofs.lemmas.List.Sums.{sum-map, sum_by-cons}
use Rattle.std.proofs.lemmas.Bool.Decides.{nat_tests}
use Rattle.std.proofs.lemmas.List.Elements.{Contains-append_left, Contains-push}
use Rattle.op_network.specs.declared.edge.Edge.{Edge}
use Rattle.op_network.specs.declared.edge.EdgeId.{EdgeId}
use Rattle.unroll_cnf.proofs.Order.{StandBehind}
use Rattle.unroll_cnf.proofs.Runs.{one_id}

-- ---- sums over places

-- the sum over the places of a list
abbrev pub total : (ℕ → ℕ) → List Edge → ℕ
total w [] = 0
total w (x ∷ xs) = w 0 + total (λ i. w (suc i)) xs

-- the weights with that of one place left out
abbrev pub without : (ℕ → ℕ) → ℕ → ℕ → ℕ
without w e i = if nat_eq i e then 0 else w i

total_same : (v w : ℕ → ℕ) (xs : List Edge) → ((i : ℕ) → v i ≡ w i) → total v xs ≡ total w xs
total_same v w [] h = refl
total_same v w (x ∷ xs) h = ap₂ (λ a b. a + b) (h 0) (total_same (λ i. v (suc i)) (λ i. w (suc i)) xs (λ i. h (suc i)))

without_other : (w : ℕ → ℕ) (e i : ℕ) → (i ≡ e → ⊥) → without w e i ≡ w i
without_other w e i ne = let t : nat_eq i e ≡ false = grind (arith, nat_tests) in rw t refl

without_same : (w : ℕ → ℕ) (e : ℕ) → without w e e ≡ 0
without_same w e = let t : nat_eq e e ≡ true = grind (arith, nat_tests) in rw t refl

without_later : (w : ℕ → ℕ) (e i : ℕ) → without w (suc e) (suc i) ≡ without (λ k. w (suc k)) e i
without_later w e i = elim (cases_Bool (nat_eq i e)) [
  | inl t ↦ let k : nat_eq (suc i) (suc e) ≡ true = grind (arith, nat_tests) in rw (t, k) refl
  | inr t ↦ let k : nat_eq (suc i) (suc e) ≡ false = grind (arith, nat_tests) in rw (t, k) refl
]

total_without : (w : ℕ → ℕ) (e : ℕ) (xs : List Edge) → e < length xs → total w xs ≡ w e + total (without w e) xs
total_without w e [] lt = absurd (omega arith)
total_without w zero (x ∷ xs) lt =
    omega (arith, without_same w 0, total_same (λ i. without w 0 (suc i)) (λ i. w (suc i)) xs (λ i. without_other w 0 (suc i) (λ (e : suc i ≡ 0). omega arith)))
total_without w (suc e) (x ∷ xs) lt =
    omega (
      arith,
      without_other w (suc e) 0 (λ (e : 0 ≡ suc e). omega arith),
      total_without (λ i. w (suc i)) e xs (omega arith),
      total_same (λ i. without w (suc e) (suc i)) (without (λ i. w (suc i)) e) xs (without_later w e),
    )

pub total_of : (f : Edge → ℕ) (xs : List Edge) → total (λ i. option_map_or f (slice_get xs i) 0) xs ≡ sum (map f xs)
total_of f [] = refl
total_of f (x ∷ xs) = omega (arith, total_of f xs, sum-map f (x ∷ xs), sum-map f xs, sum_by-cons f x xs)

pub total_ones : (xs : List Edge) → total (λ i. 1) xs ≡ length xs
total_ones [] = refl
total_ones (x ∷ xs) = omega (arith, total_ones xs)

-- ---- sums over a list of edges

abbrev pub weigh : (ℕ → ℕ) → List EdgeId → ℕ
weigh w [] = 0
weigh w (e ∷ order) = w e.0 + weigh w order

pub weigh_ones : (order : List EdgeId) → weigh (λ i. 1) order ≡ length order
weigh_ones [] = refl
weigh_ones (e ∷ order) = omega (arith, weigh_ones order)

-- an edge that is done stands no more in the list
weigh_without : (edges : List Edge) (w : ℕ → ℕ) (e : EdgeId) (done order : List EdgeId) → Contains done e → StandBehind edges done order → weigh w order ≡ weigh (without w e.0) order
weigh_without edges w e done [] i c = refl
weigh_without edges w e done (o ∷ order) i c =
    ap₂ (λ a b. a + b)
    (sym (without_other w e.0 o.0 (λ q. c.0.new (subst (λ (x : EdgeId). Contains done x) (one_id e o (sym q)) i))))
    (weigh_without edges w e (done ++ o ∷ []) order (Contains-append_left done (o ∷ []) e i) c.1)

pub weigh_most : (edges : List Edge) (w : ℕ → ℕ) (done order : List EdgeId) → StandBehind edges done order → weigh w order ≤ total w edges
weigh_most edges w done [] c = omega arith
weigh_most edges w done (e ∷ order) c =
    omega (
      arith,
      total_without w e.0 edges c.0.within,
      weigh_without edges w e (done ++ e ∷ []) order (Contains-push done e) c.1,
      weigh_most edges (without w e.0) (done ++ e ∷ []) order c.1,
    )

-- a causal list has at most all edges
pub order_few : (edges : List Edge) (order : List EdgeId) → StandBehind edges [] order → length order ≤ length edges
order_few edges order c = omega (arith, weigh_most edges (λ i. 1) [] order c, total_ones edges, weigh_ones order)
