-- A frame that is computed in place, in the order of a network.
use Rattle.std.proofs.Common.{◌≡◌, ℕ, suc, zero, ◌+◌, ◌<◌, ◌≤◌, List, [], ◌∷◌, length, take, set, get_or, refl, sym, ap, ◌∙◌, subst, arith}
use Rattle.std.specs.Prelude.{Option, Some, slice_get}
use Rattle.op_network.specs.declared.edge.EdgeId.{EdgeId}
use Rattle.op_network.specs.declared.edge.Edge.{Edge}
use Rattle.op_network.specs.declared.value.Value.{Value}
use Rattle.op_network.specs.Operators.{operator_value}
use Rattle.op_network.specs.Run.{IsFrame}
use Rattle.lus_causality.specs.Causality.{IsSequence}
use Rattle.lus_causality.proofs.Causal.{causal_of}
use Rattle.lus_causality.proofs.Frames.{Computed, next, found_at, started, finished}

pub at_index : (sequence : List EdgeId) (i : ℕ) (d : EdgeId) → i < length sequence → slice_get sequence i ≡ Some (get_or sequence i d)
at_index [] i d lt = absurd (omega (arith, lt))
at_index (x ∷ xs) zero d lt = refl
at_index (x ∷ xs) (suc i) d lt = at_index xs i d (omega (arith, lt))

pub begun : (width : ℕ) (edges : List Edge) (before : Option (List Value)) (inputs : List Value) (sequence : List EdgeId) (now : List Value) → length now ≡ length edges → Computed width edges before inputs (take 0 sequence) now
begun width edges before inputs sequence now size = started width edges before inputs sequence now size

module _ (width : ℕ) (edges : List Edge) (sequence items : List EdgeId) (order : IsSequence edges sequence) (same : items ≡ sequence) (i : ℕ) (d : EdgeId) (lt : i < length items) where
  at_i : slice_get sequence i ≡ Some (get_or sequence i d)
  at_i = at_index sequence i d (subst (λ (l : List EdgeId). i < length l) same lt)

  pub edge_within : (edges' : List Edge) → edges' ≡ edges → (get_or items i d).0 < length edges'
  edge_within edges' whole =
      subst (λ (es : List Edge). (get_or items i d).0 < length es) (sym whole)
      (subst (λ (l : List EdgeId). (get_or l i d).0 < length edges) (sym same)
      (order.least i (get_or sequence i d) at_i).stands.within)

  pub next_in : (edges' : List Edge) → edges' ≡ edges → (width' : ℕ) → width' ≡ width → (before : Option (List Value)) (inputs now now' : List Value) → ((edge : Edge) → slice_get edges' (get_or items i d).0 ≡ Some edge → now' ≡ set now (get_or items i d).0 (operator_value width' edge.op edge.ty before now inputs)) → Computed width edges before inputs (take i sequence) now → Computed width edges before inputs (take (i + 1) sequence) now'
  next_in edges' whole width' same_width before inputs now now' sets c =
      let found = found_at edges (get_or sequence i d).0 (order.least i (get_or sequence i d) at_i).stands.within in
      let is = sets found.0 (ap (λ (es : List Edge). slice_get es (get_or items i d).0) whole ∙ ap (λ (l : List EdgeId). slice_get edges (get_or l i d).0) same ∙ found.1) in
      next width edges before inputs sequence i (get_or sequence i d) found.0 now now' (causal_of edges sequence order.least) at_i found.1
      (is ∙ ap (λ (n : ℕ). set now (get_or items i d).0 (operator_value n found.0.op found.0.ty before now inputs)) same_width ∙ ap (λ (l : List EdgeId). set now (get_or l i d).0 (operator_value width found.0.op found.0.ty before now inputs)) same) c

pub all_computed : (width : ℕ) (edges : List Edge) (before : Option (List Value)) (inputs : List Value) (sequence items : List EdgeId) (i : ℕ) (now : List Value) → IsSequence edges sequence → items ≡ sequence → length items ≤ i → Computed width edges before inputs (take i sequence) now → IsFrame width edges before inputs now
all_computed width edges before inputs sequence items i now order same full c =
    finished width edges before inputs sequence i now order.full (subst (λ (l : List EdgeId). length l ≤ i) same full) c
