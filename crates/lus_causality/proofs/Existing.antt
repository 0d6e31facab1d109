-- In a network without a cycle some edge can always be next, until there is none left.
use Rattle.std.proofs.Common.{◌≡◌, ◌⊎◌, inl, inr, ⊎_elim, ℕ, suc, zero, ◌+◌, ◌<◌, ◌≤◌, List, [], ◌∷◌, ◌++◌, length, refl, sym, ap, subst, arith, length-append}
use Rattle.std.proofs.lemmas.Bool.{cases_eq}
use Rattle.std.specs.Prelude.{Some, slice_get}
use Rattle.std.specs.List.{Contains}
use Rattle.std.proofs.lemmas.List.Elements.{Contains-push_cases}
use Rattle.op_network.specs.declared.edge.EdgeId.{EdgeId}
use Rattle.op_network.specs.declared.edge.Edge.{Edge}
use Rattle.op_network.specs.declared.edge.Parts.{Parts}
use Rattle.op_network.specs.Valid.{IsValid}
use Rattle.lus_causality.specs.Causality.{operands_now, CanStand, IsCausal, IsFull, HasNoCycle}
use Rattle.lus_causality.proofs.Places.{first as at_first, later, none, parts as places}
use Rattle.lus_causality.proofs.Cycles.{AreDistinct, few, member, some_cycle}
use Rattle.lus_causality.proofs.Causal.{causal_push}
use Rattle.lus_causality.proofs.Growing.{distinct_push}
use Rattle.lus_causality.proofs.Ending.{operands_within}

-- an edge is the next of a set: it is not in the set, and its operands at the instant are
pub record IsNext (edges : List Edge) (Has : EdgeId → Type 0) (e : EdgeId) : Type 0 where
  pub within : e.0 < length edges
  pub new : Has e → ⊥
  pub operands : (o : EdgeId) → Contains (operands_now edges e) o → Has o

module _ (parts : Parts) (valid : IsValid parts) (acyclic : HasNoCycle parts.edges) (Has : EdgeId → Type 0) (has : (e : EdgeId) → Has e ⊎ (Has e → ⊥)) where
  all_in : (ops : List EdgeId) → ((o : EdgeId) → Contains ops o → Has o) ⊎ ((o : EdgeId) × Contains ops o × (Has o → ⊥))
  all_in [] = inl (λ o i. none o i)
  all_in (x ∷ ops) = cases (has x) (all_in ops)
    where
      both : Has x → ((o : EdgeId) → Contains ops o → Has o) → (o : EdgeId) → Contains (x ∷ ops) o → Has o
      both h rest o i = ⊎_elim (λ same. subst Has same h) (λ k. rest o k) (places o x ops i)

      cases : Has x ⊎ (Has x → ⊥) → ((o : EdgeId) → Contains ops o → Has o) ⊎ ((o : EdgeId) × Contains ops o × (Has o → ⊥)) → ((o : EdgeId) → Contains (x ∷ ops) o → Has o) ⊎ ((o : EdgeId) × Contains (x ∷ ops) o × (Has o → ⊥))
      cases (inr u) rest = inr (x, at_first x x ops refl, u)
      cases (inl h) (inl rest) = inl (both h rest)
      cases (inl h) (inr k) = inr (k.0, later k.0 x ops k.1, k.2)

  is_next : (e : EdgeId) → e.0 < length parts.edges → IsNext parts.edges Has e ⊎ (IsNext parts.edges Has e → ⊥)
  is_next e within = elim (has e) [
    | inl h ↦ inr (λ n. n.new h)
    | inr new ↦ elim (all_in (operands_now parts.edges e)) [
      | inl all ↦ inl (record { within = within; new = new; operands = all })
      | inr k ↦ inr (λ n. k.2 (n.operands k.0 k.1))
    ]
  ]

  next_below : (k : ℕ) → k ≤ length parts.edges → ((e : EdgeId) × IsNext parts.edges Has e) ⊎ ((e : EdgeId) → e.0 < k → IsNext parts.edges Has e → ⊥)
  next_below zero le = inr (λ e lt. absurd (omega (arith, lt)))
  next_below (suc k) le = elim (next_below k (omega (arith, le))) [
    | inl found ↦ inl found
    | inr below ↦ elim (is_next (record { 0 = k }) (omega (arith, le))) [
      | inl n ↦ inl (record { 0 = k }, n)
      | inr not ↦ inr (λ e lt. ⊎_elim
          (λ same. subst (λ x. IsNext parts.edges Has x → ⊥) (let s : record { 0 = k } ≡ e = ap (λ n. record { 0 = n }) (sym same) in s) not)
          (λ apart. below e (omega (arith, lt, apart)))
          (cases_eq e.0 k))
    ]
  ]

  abbrev Left : EdgeId → Type 0
  Left e = (e.0 < length parts.edges) × (Has e → ⊥)

  -- some edge is next, or all are in the set
  pub next_or_all : ((e : EdgeId) × IsNext parts.edges Has e) ⊎ ((e : EdgeId) → e.0 < length parts.edges → Has e)
  next_or_all = ⊎_elim
      (λ found. inl found)
      (λ nothing. inr (λ e within. ⊎_elim (λ h. h) (λ new. absurd (let c = some_cycle parts.edges (length parts.edges) Left (λ x l. l.0) (more nothing) e (within, new) in acyclic.none c.0 c.2)) (has e)))
      (next_below (length parts.edges) (omega arith))
    where
      more : ((e : EdgeId) → e.0 < length parts.edges → IsNext parts.edges Has e → ⊥) → (x : EdgeId) → Left x → (o : EdgeId) × Contains (operands_now parts.edges x) o × Left o
      more nothing x l = ⊎_elim
          (λ all. absurd (nothing x l.0 (record { within = l.0; new = l.1; operands = all })))
          (λ k. (k.0, k.1, (operands_within parts valid x k.0 k.1, k.2)))
          (all_in (operands_now parts.edges x))

pub can_stand_or_full : (parts : Parts) → IsValid parts → HasNoCycle parts.edges → (list : List EdgeId) → ((e : EdgeId) × CanStand parts.edges list e) ⊎ IsFull parts.edges list
can_stand_or_full parts valid acyclic list = ⊎_elim
    (λ k. inl (k.0, record { within = k.1.within; new = k.1.new; operands = k.1.operands }))
    (λ all. inr all)
    (next_or_all parts valid acyclic (Contains list) (λ e. member e list))

grown : (parts : Parts) → IsValid parts → HasNoCycle parts.edges → (fuel : ℕ) (list : List EdgeId) → length parts.edges < fuel + length list → IsCausal parts.edges list → AreDistinct list → ((o : EdgeId) → Contains list o → o.0 < length parts.edges) → (all : List EdgeId) × IsCausal parts.edges all × IsFull parts.edges all
grown parts valid acyclic zero list long causal apart within = let le = few (length parts.edges) list apart within in absurd (omega (arith, le, long))
grown parts valid acyclic (suc fuel) list long causal apart within = elim (can_stand_or_full parts valid acyclic list) [
  | inr full ↦ (list, causal, full)
  | inl k ↦ grown parts valid acyclic fuel (list ++ k.0 ∷ []) (let size = length-append list (k.0 ∷ []) in omega (arith, long, size))
      (causal_push parts.edges k.0 list k.1 causal)
      (distinct_push k.0 list k.1.new apart)
      (λ o i. ⊎_elim (λ h. within o h) (λ same. subst (λ (x : EdgeId). x.0 < length parts.edges) same k.1.within) (Contains-push_cases list k.0 o i))
]

-- a network without a cycle has a full causal list
pub full_list : (parts : Parts) → IsValid parts → HasNoCycle parts.edges → (all : List EdgeId) × IsCausal parts.edges all × IsFull parts.edges all
full_list parts valid acyclic = grown parts valid acyclic (suc (length parts.edges)) [] (omega arith) (λ i e is. absurd (nothing i e is)) (λ i j d lt within. absurd (omega (arith, within))) (λ o i. none o i)
  where
    nothing : (i : ℕ) (e : EdgeId) → slice_get [] i ≡ Some e → ⊥
    nothing i e is = cc
