-- Lists of edges in which each can stand behind those before it.
use Rattle.std.proofs.Common.{◌≡◌, ◌⊎◌, inl, inr, ⊎_elim, ℕ, suc, zero, ◌<◌, List, [], ◌∷◌, ◌++◌, length, take, refl, sym, ap, subst, arith}
use Rattle.std.specs.Prelude.{Some, slice_get}
use Rattle.std.specs.List.{Contains}
use Rattle.op_network.specs.declared.edge.EdgeId.{EdgeId}
use Rattle.op_network.specs.declared.edge.Edge.{Edge}
use Rattle.lus_causality.specs.Causality.{Leads, IsOnCycle, CanStand, IsCausal, IsLeast, IsLeastFirst}
use Rattle.lus_causality.proofs.Places.{first as at_first, later, none, parts}
use Rattle.lus_causality.proofs.Cycles.{from_any}

pub place_in : (b : EdgeId) (xs : List EdgeId) → Contains xs b → (j : ℕ) × (j < length xs) × (slice_get xs j ≡ Some b)
place_in b [] i = none b i
place_in b (x ∷ xs) i = elim (parts b x xs i) [
  | inl same ↦ (0, omega arith, ap Some same)
  | inr k ↦ let p = place_in b xs k in (suc p.0, omega (arith, p.1), p.2)
]

pub more_taken : (o : EdgeId) (xs : List EdgeId) (j i : ℕ) → j < i → Contains (take j xs) o → Contains (take i xs) o
more_taken o [] zero i lt h = none o h
more_taken o [] (suc j) i lt h = none o h
more_taken o (x ∷ xs) zero i lt h = none o h
more_taken o (x ∷ xs) (suc j) zero lt h = absurd (omega (arith, lt))
more_taken o (x ∷ xs) (suc j) (suc i) lt h = elim (parts o x (take j xs) h) [
  | inl same ↦ at_first o x (take i xs) same
  | inr k ↦ later o x (take i xs) (more_taken o xs j i (omega (arith, lt)) k)
]

pub place_below : (e : EdgeId) (xs : List EdgeId) (i : ℕ) → Contains (take i xs) e → (j : ℕ) × (j < i) × (slice_get xs j ≡ Some e)
place_below e [] zero h = none e h
place_below e [] (suc i) h = none e h
place_below e (x ∷ xs) zero h = none e h
place_below e (x ∷ xs) (suc i) h = elim (parts e x (take i xs) h) [
  | inl same ↦ (0, omega arith, ap Some same)
  | inr k ↦ let p = place_below e xs i k in (suc p.0, omega (arith, p.1), p.2)
]

-- what leads to an edge of a causal list stands before it
pub stands_before : (edges : List Edge) (sequence : List EdgeId) → IsCausal edges sequence → (i : ℕ) (b : EdgeId) → slice_get sequence i ≡ Some b → (a : EdgeId) (way : List EdgeId) → Leads edges a way b → Contains (take i sequence) a
stands_before edges sequence causal i b is a [] h = (causal i b is).operands a h
stands_before edges sequence causal i b is a (c ∷ way) h =
    let p = place_below c sequence i (stands_before edges sequence causal i b is c way h.1) in
    more_taken a sequence p.0 i p.1 ((causal p.0 c p.2).operands a h.0)

-- the edges that were taken one by one are a causal list
pub causal_of : (edges : List Edge) (sequence : List EdgeId) → IsLeastFirst edges sequence → IsCausal edges sequence
causal_of edges sequence h = λ i e is. (h i e is).stands

-- an edge of a causal list lies on no cycle
pub off_cycle : (edges : List Edge) (list : List EdgeId) → IsCausal edges list → (e : EdgeId) → Contains list e → IsOnCycle edges e → ⊥
off_cycle edges list causal e i lies =
    let w = from_any edges e lies in
    let p = place_in e list i in
    (causal p.0 e p.2).new (stands_before edges list causal p.0 e p.2 e w.0 w.1)

-- what holds of each element with those before it holds so with one more at the end
module _ (P : List EdgeId → EdgeId → Type 0) (e : EdgeId) (xs : List EdgeId) (is : P xs e) (h : (i : ℕ) (x : EdgeId) → slice_get xs i ≡ Some x → P (take i xs) x) where
  pub push_each : (i : ℕ) (x : EdgeId) → slice_get (xs ++ e ∷ []) i ≡ Some x → P (take i (xs ++ e ∷ [])) x
  push_each i x found = go (place xs i found)
    where
      place : (ys : List EdgeId) (i : ℕ) → slice_get (ys ++ e ∷ []) i ≡ Some x → ((slice_get ys i ≡ Some x) × (take i (ys ++ e ∷ []) ≡ take i ys)) ⊎ ((e ≡ x) × (take i (ys ++ e ∷ []) ≡ ys))
      place [] zero found = inr ((let k : e ≡ x = cc in k), refl)
      place [] (suc i) found = absurd (cc)
      place (y ∷ ys) zero found = inl (found, refl)
      place (y ∷ ys) (suc i) found = ⊎_elim (λ k. inl (k.0, ap (λ l. y ∷ l) k.1)) (λ k. inr (k.0, ap (λ l. y ∷ l) k.1)) (place ys i found)

      go : ((slice_get xs i ≡ Some x) × (take i (xs ++ e ∷ []) ≡ take i xs)) ⊎ ((e ≡ x) × (take i (xs ++ e ∷ []) ≡ xs)) → P (take i (xs ++ e ∷ [])) x
      go (inl k) = subst (λ l. P l x) (sym k.1) (h i x k.0)
      go (inr k) = subst (λ l. P l x) (sym k.1) (subst (P xs) k.0 is)

pub least_push : (edges : List Edge) (e : EdgeId) (xs : List EdgeId) → IsLeast edges xs e → IsLeastFirst edges xs → IsLeastFirst edges (xs ++ e ∷ [])
least_push edges e xs is h = push_each (IsLeast edges) e xs is h

pub causal_push : (edges : List Edge) (e : EdgeId) (xs : List EdgeId) → CanStand edges xs e → IsCausal edges xs → IsCausal edges (xs ++ e ∷ [])
causal_push edges e xs is h = push_each (CanStand edges) e xs is h
