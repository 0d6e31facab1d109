-- Operands at an instant, and marks of edges.
use Rattle.std.proofs.Common.{◌≡◌, ◌⊎◌, inl, inr, ℕ, suc, zero, ◌+◌, ◌<◌, ◌≤◌, Bool, false, List, [], ◌∷◌, length, take, get_or, refl, sym, ap, ◌∙◌, subst, arith, add-one}
use Rattle.std.specs.Prelude.{Some, slice_get, Contains}
use Rattle.op_network.specs.declared.edge.EdgeId.{EdgeId}
use Rattle.op_network.specs.declared.edge.Edge.{Edge}
use Rattle.lus_causality.specs.Marks.{IsMarked, AreMarked}
use Rattle.lus_causality.specs.Causality.{operands_now}
use Rattle.lus_causality.specs.Marks.{IsFree}
use Rattle.lus_causality.proofs.Places.{first as at_first, later, none, parts}

pub none_marked : (ops : List EdgeId) (marks : List Bool) → AreMarked (take 0 ops) marks
none_marked [] marks = record { each = λ o h. none o h }
none_marked (x ∷ ops) marks = record { each = λ o h. none o h }

pub take_one : (e : EdgeId) (xs : List EdgeId) (i : ℕ) (x : EdgeId) → slice_get xs i ≡ Some x → Contains (take (suc i) xs) e → (e ≡ x) ⊎ Contains (take i xs) e
take_one e [] i x is h = none e h
take_one e (y ∷ xs) zero x is h = only (parts e y (take 0 xs) h)
  where
    only : (y ≡ e) ⊎ Contains (take 0 xs) e → (e ≡ x) ⊎ Contains [] e
    only (inl same) = inl (let k : y ≡ x = cc in sym same ∙ k)
    only (inr k) = none e (no_front xs k)
      where
        no_front : (xs : List EdgeId) → Contains (take 0 xs) e → Contains [] e
        no_front [] k = k
        no_front (z ∷ xs) k = k
take_one e (y ∷ xs) (suc i) x is h = cases (parts e y (take (suc i) xs) h) (λ k. take_one e xs i x is k)
  where
    behind : (e ≡ x) ⊎ Contains (take i xs) e → (e ≡ x) ⊎ Contains (y ∷ take i xs) e
    behind (inl same) = inl same
    behind (inr k) = inr (later e y (take i xs) k)

    cases : (y ≡ e) ⊎ Contains (take (suc i) xs) e → (Contains (take (suc i) xs) e → (e ≡ x) ⊎ Contains (take i xs) e) → (e ≡ x) ⊎ Contains (y ∷ take i xs) e
    cases (inl same) rest = inr (at_first e y (take i xs) same)
    cases (inr k) rest = behind (rest k)

pub one_marked : (ops : List EdgeId) (marks : List Bool) (i : ℕ) (x : EdgeId) → slice_get ops i ≡ Some x → IsMarked marks x → AreMarked (take i ops) marks → AreMarked (take (i + 1) ops) marks
one_marked ops marks i x is marked all = subst (λ n. AreMarked (take n ops) marks) (sym (add-one i)) (record { each = λ o h. go o (take_one o ops i x is h) })
  where
    go : (o : EdgeId) → (o ≡ x) ⊎ Contains (take i ops) o → IsMarked marks o
    go o (inl same) = subst (IsMarked marks) (sym same) marked
    go o (inr h) = all.each o h

pub take_whole : {A : Type 0} (xs : List A) (i : ℕ) → length xs ≤ i → take i xs ≡ xs
take_whole [] zero le = refl
take_whole [] (suc i) le = refl
take_whole (x ∷ xs) zero le = absurd (omega arith)
take_whole (x ∷ xs) (suc i) le = ap (λ l. x ∷ l) (take_whole xs i (omega arith))

pub all_marked : (ops : List EdgeId) (marks : List Bool) (i : ℕ) → length ops ≤ i → AreMarked (take i ops) marks → AreMarked ops marks
all_marked ops marks i le all = subst (λ l. AreMarked l marks) (take_whole ops i le) all

pub in_at : (xs : List EdgeId) (i : ℕ) (x : EdgeId) → slice_get xs i ≡ Some x → Contains xs x
in_at [] i x is = absurd (cc)
in_at (y ∷ xs) zero x is = at_first x y xs (let k : y ≡ x = cc in k)
in_at (y ∷ xs) (suc i) x is = later x y xs (in_at xs i x is)

pub not_marked : (ops : List EdgeId) (marks : List Bool) (i : ℕ) (x : EdgeId) → slice_get ops i ≡ Some x → get_or marks x.0 false ≡ false → AreMarked ops marks → ⊥
not_marked ops marks i x is unmarked all = let k = all.each x (in_at ops i x is) in absurd (cc)

pub is_free : (edges : List Edge) (marks : List Bool) (e : EdgeId) → e.0 < length edges → get_or marks e.0 false ≡ false → AreMarked (operands_now edges e) marks → IsFree edges marks e
is_free edges marks e within unmarked operands = record { within = within; unmarked = unmarked; operands = operands }
