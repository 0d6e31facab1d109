-- The words that an instant makes are of variables that are there.
use Rattle.std.proofs.Common.{◌≡◌, ℕ, ◌<◌, ◌≤◌, [], ◌∷◌, refl, sym, ap, ◌∙◌, subst, arith, Option, Some, None}
use Rattle.std.specs.List.{Contains}
use Rattle.op_network.specs.declared.edge.EdgeId.{EdgeId}
use Rattle.op_network.specs.declared.edge.Parts.{Parts}
use Rattle.op_network.specs.declared.form.Form.{Form}
use Rattle.op_network.specs.declared.form.Form.TheVariants.{Input, Const, One, Two, Ite, Arrow, Pre}
use Rattle.op_network.specs.declared.value.Ty.{Ty}
use Rattle.op_network.specs.Valid.{type_of, GivesType}
use Rattle.op_network.specs.Values.{default}
use Rattle.lus_causality.specs.Causality.{operands_now_by}
use Rattle.lus_causality.proofs.Places.{first, later}
use Rattle.bit_blast.specs.Circuit.{after}
use Rattle.bit_blast.specs.Words.{fresh}
use Rattle.bit_blast.proofs.Values.{Obeys, Meets, assign, extend, value_of, AreGates}
use Rattle.bit_blast.proofs.Values as circuit
use Rattle.bit_blast.proofs.Circuits.{gates_ordered}
use Rattle.bit_blast.proofs.Made.{Within, within_more, within_ite, within_fresh, gates_ite}
use Rattle.unroll_cnf.specs.Sizes.{bits_of}
use Rattle.unroll_cnf.specs.Values.{value_bits}
use Rattle.unroll_cnf.specs.Unrolled.{Table, only, circuit_by}
use Rattle.unroll_cnf.proofs.Edges.{SizedAt}
use Rattle.unroll_cnf.proofs.Placing.{only_below, constants_within, bits_some, binary_same, unary_gates, binary_gates, unary_within, binary_within}
use Rattle.unroll_cnf.proofs.Typed.{binary_typed, if_typed}
use Rattle.unroll_cnf.proofs.Inputs.{input_ordered, after_input}

module _ (parts : Parts) where
  abbrev pub PlacedBefore : ℕ → Option Table → Type 0
  PlacedBefore m None = Unit {0}
  PlacedBefore m (Some before) = (o : EdgeId) (a : Ty) → type_of parts.edges o ≡ Some a → Within m (before o.0)

  pub placed_before_more : (m k : ℕ) (before : Option Table) → m ≤ k → PlacedBefore m before → PlacedBefore k before
  placed_before_more m k None le p = tt
  placed_before_more m k (Some before) le p = λ o a t. within_more m k (before o.0) le (p o a t)

  -- an operator other than an input makes gates alone
  pub gates_by : (m : ℕ) (form : Form) (ty : Ty) (before : Option Table) (now : Table) → 0 < m → GivesType parts form ty →
      ((o : EdgeId) → Contains (operands_now_by form) o → SizedAt parts now o) → ((o : EdgeId) → Contains (operands_now_by form) o → Within m (now o.0)) →
      ((i : ℕ) → form ≡ Input i → ⊥) → AreGates m (circuit_by parts m form ty before now).entries
  gates_by m (Input i) ty before now h t s p none_in = absurd (none_in i refl)
  gates_by m (Const x) ty before now h t s p none_in = tt
  gates_by m (One o a) ty before now h t s p none_in = unary_gates m o (now a.0) h (p a (first a a [] refl))
  gates_by m (Two o a c) ty before now h t s p none_in =
      let k = binary_typed o (type_of parts.edges a) (type_of parts.edges c) ty t in
      let at_a = first a a (c ∷ []) refl in
      let at_c = later c a (c ∷ []) (first c c [] refl) in
      binary_gates m o (now a.0) (now c.0) h (s a at_a k.0 k.2 ∙ (ap (bits_of parts) (binary_same o k.0 k.1 ty k.4) ∙ sym (s c at_c k.1 k.3))) (p a at_a) (p c at_c)
  gates_by m (Ite a c d) ty before now h t s p none_in =
      let k = if_typed (type_of parts.edges a) (type_of parts.edges c) (type_of parts.edges d) ty t in
      let at_a = first a a (c ∷ d ∷ []) refl in
      let at_c = later c a (c ∷ d ∷ []) (first c c (d ∷ []) refl) in
      let at_d = later d a (c ∷ d ∷ []) (later d c (d ∷ []) (first d d [] refl)) in
      gates_ite m (only (now a.0)) (now c.0) (now d.0) (s c at_c ty k.1 ∙ sym (s d at_d ty k.2)) (only_below m (now a.0) h (p a at_a)) (p c at_c) (p d at_d)
  gates_by m (Arrow a c) ty before now h t s p none_in = tt
  gates_by m (Pre a) ty before now h t s p none_in = tt

  pub ordered_by : (m : ℕ) (form : Form) (ty : Ty) (before : Option Table) (now : Table) → 0 < m → GivesType parts form ty →
      ((o : EdgeId) → Contains (operands_now_by form) o → SizedAt parts now o) → ((o : EdgeId) → Contains (operands_now_by form) o → Within m (now o.0)) →
      circuit.IsOrdered m (circuit_by parts m form ty before now).entries
  ordered_by m (Input i) ty before now h t s p = input_ordered parts m ty
  ordered_by m (Const x) ty before now h t s p = tt
  ordered_by m (One o a) ty before now h t s p = gates_ordered m _ (gates_by m (One o a) ty before now h t s p (λ i e. absurd (cc)))
  ordered_by m (Two o a c) ty before now h t s p = gates_ordered m _ (gates_by m (Two o a c) ty before now h t s p (λ i e. absurd (cc)))
  ordered_by m (Ite a c d) ty before now h t s p = gates_ordered m _ (gates_by m (Ite a c d) ty before now h t s p (λ i e. absurd (cc)))
  ordered_by m (Arrow a c) ty before now h t s p = tt
  ordered_by m (Pre a) ty before now h t s p = tt

  pub within_by : (m : ℕ) (form : Form) (ty : Ty) (before : Option Table) (now : Table) → 0 < m → 1 ≤ parts.width → GivesType parts form ty →
      ((o : EdgeId) → Contains (operands_now_by form) o → SizedAt parts now o) → ((o : EdgeId) → Contains (operands_now_by form) o → Within m (now o.0)) → PlacedBefore m before →
      Within (after m (circuit_by parts m form ty before now).entries) (circuit_by parts m form ty before now).result
  within_by m (Input i) ty before now h wide t s p b = subst (λ x. Within x (fresh m (bits_of parts ty)).result) (sym (after_input parts m ty)) (within_fresh m (bits_of parts ty))
  within_by m (Const x) ty before now h wide t s p b = constants_within m (value_bits parts x ty) h
  within_by m (One o a) ty before now h wide t s p b = unary_within m o (now a.0) (p a (first a a [] refl))
  within_by m (Two o a c) ty before now h wide t s p b =
      let k = binary_typed o (type_of parts.edges a) (type_of parts.edges c) ty t in
      let at_a = first a a (c ∷ []) refl in
      let at_c = later c a (c ∷ []) (first c c [] refl) in
      let size = s a at_a k.0 k.2 in
      let some = bits_some parts k.0 wide in
      binary_within m o (now a.0) (now c.0) h (size ∙ (ap (bits_of parts) (binary_same o k.0 k.1 ty k.4) ∙ sym (s c at_c k.1 k.3))) (omega arith)
  within_by m (Ite a c d) ty before now h wide t s p b = within_ite m (only (now a.0)) (now c.0) (now d.0)
  within_by m (Arrow a c) ty None now h wide t s p b = p a (first a a (c ∷ []) refl)
  within_by m (Arrow a c) ty (Some x) now h wide t s p b = p c (later c a (c ∷ []) (first c c [] refl))
  within_by m (Pre a) ty None now h wide t s p b = constants_within m (value_bits parts (default ty) ty) h
  within_by m (Pre a) ty (Some x) now h wide t s p b = b a ty t
