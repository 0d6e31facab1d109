-- The circuit of an edge at an instant: its size and its value, over words of its operands.
use Rattle.std.proofs.Common.{◌≡◌, ℕ, ◌≤◌, Bool, true, false, cond, List, [], ◌∷◌, length, refl, sym, ap, ap₂, ◌∙◌, Option, Some, None}
use Rattle.std.specs.Prelude.{slice_index_or, All, if◌then◌else◌}
use Rattle.std.specs.List.{Contains}
use Rattle.std.specs.Option.{option_map}
use Rattle.cnf_form.specs.Lits.{truth}
use Rattle.op_network.specs.declared.edge.EdgeId.{EdgeId}
use Rattle.op_network.specs.declared.edge.Parts.{Parts}
use Rattle.op_network.specs.declared.form.Form.{Form}
use Rattle.op_network.specs.declared.form.Form.TheVariants.{Input, Const, One, Two, Ite, Arrow, Pre}
use Rattle.op_network.specs.declared.value.Ty.{Ty}
use Rattle.op_network.specs.declared.value.Ty.TheVariants as type
use Rattle.op_network.specs.declared.value.Value.{Value}
use Rattle.op_network.specs.declared.value.Value.TheVariants as value
use Rattle.op_network.specs.Operators.{at_edge, value_by, unary_value, binary_value}
use Rattle.op_network.specs.Valid.{type_of, GivesType, IsChoice}
use Rattle.op_network.specs.Values.{default, is_true}
use Rattle.lus_causality.specs.Causality.{operands_now_by}
use Rattle.lus_causality.proofs.Places.{first, later}
use Rattle.bit_blast.specs.Numbers.{bits}
use Rattle.bit_blast.proofs.Values.{Obeys}
use Rattle.bit_blast.proofs.Comparisons.{ite_bits}
use Rattle.bit_blast.proofs.Made.{length-fresh, length-ite}
use Rattle.unroll_cnf.specs.Sizes.{bits_of}
use Rattle.unroll_cnf.specs.Values.{bits_value, value_bits}
use Rattle.unroll_cnf.specs.Laws.{frame_of}
use Rattle.unroll_cnf.specs.Unrolled.{Table, only, circuit_by}
use Rattle.unroll_cnf.proofs.Bits.{bits-constants, only_value}
use Rattle.unroll_cnf.proofs.Operators.{unary_law, binary_law, unary_size, binary_size}
use Rattle.unroll_cnf.proofs.Typed.{unary_typed, binary_typed, if_typed, arrow_typed, value_of_bits, default_of_bits, length-value_word, length-default_word}

-- the word of an edge has the size of its type
abbrev pub SizedAt : Parts → Table → EdgeId → Type 0
SizedAt parts now o = (a : Ty) → type_of parts.edges o ≡ Some a → length (now o.0) ≡ bits_of parts a

-- the words of the instant before have the sizes of their types
abbrev pub SizedBefore : Parts → Option Table → Type 0
SizedBefore parts None = Unit {0}
SizedBefore parts (Some before) = (o : EdgeId) → SizedAt parts before o

-- ---- sizes

pub size_by : (parts : Parts) (n : ℕ) (form : Form) (ty : Ty) (before : Option Table) (now : Table) → GivesType parts form ty → SizedBefore parts before →
    ((o : EdgeId) → Contains (operands_now_by form) o → SizedAt parts now o) → length (circuit_by parts n form ty before now).result ≡ bits_of parts ty
size_by parts n (Input i) ty before now t b s = length-fresh n (bits_of parts ty)
size_by parts n (Const x) ty before now t b s = length-value_word parts x ty t
size_by parts n (One o a) ty before now t b s =
    let k = unary_typed o (type_of parts.edges a) ty t in
    unary_size parts o k.0 ty n (now a.0) k.2 (s a (first a a [] refl) k.0 k.1)
size_by parts n (Two o a c) ty before now t b s =
    let k = binary_typed o (type_of parts.edges a) (type_of parts.edges c) ty t in
    binary_size parts o k.0 k.1 ty n (now a.0) (now c.0) k.4 (s a (first a a (c ∷ []) refl) k.0 k.2) (s c (later c a (c ∷ []) (first c c [] refl)) k.1 k.3)
size_by parts n (Ite a c d) ty before now t b s =
    let k = if_typed (type_of parts.edges a) (type_of parts.edges c) (type_of parts.edges d) ty t in
    let l = s c (later c a (c ∷ d ∷ []) (first c c (d ∷ []) refl)) ty k.1 in
    let m = s d (later d a (c ∷ d ∷ []) (later d c (d ∷ []) (first d d [] refl))) ty k.2 in
    length-ite n (only (now a.0)) (now c.0) (now d.0) (l ∙ sym m) ∙ l
size_by parts n (Arrow a c) ty None now t b s = s a (first a a (c ∷ []) refl) ty (arrow_typed (type_of parts.edges a) (type_of parts.edges c) ty t).0
size_by parts n (Arrow a c) ty (Some x) now t b s = s c (later c a (c ∷ []) (first c c [] refl)) ty (arrow_typed (type_of parts.edges a) (type_of parts.edges c) ty t).1
size_by parts n (Pre a) ty None now t b s = length-default_word parts ty
size_by parts n (Pre a) ty (Some x) now t b s = b a ty t

-- ---- values

-- the frame has the value of the word of an edge
abbrev pub ReadsAt : Parts → (ℕ → Bool) → Table → List Value → EdgeId → Type 0
ReadsAt parts v now frame o = (a : Ty) → type_of parts.edges o ≡ Some a → at_edge frame o ≡ bits_value a (bits v (now o.0))

-- the frame of the words of the instant before
abbrev pub frame_before : Parts → (ℕ → Bool) → Option Table → Option (List Value)
frame_before parts v before = option_map (frame_of parts v) before

abbrev pub ReadsBefore : Parts → (ℕ → Bool) → Option Table → Type 0
ReadsBefore parts v None = Unit {0}
ReadsBefore parts v (Some before) = (o : EdgeId) → ReadsAt parts v before (frame_of parts v before) o

choice_value : (ty : Ty) (x : Bool) (p q : List Bool) → bits_value ty (cond x p q) ≡ (if x then bits_value ty p else bits_value ty q)
choice_value ty true p q = refl
choice_value ty false p q = refl

module _ (parts : Parts) (v : ℕ → Bool) (one_true : v 0 ≡ true) (wide : 1 ≤ parts.width) (choices : All IsChoice parts.choices) (frame inputs : List Value) where
  pub value_law : (n : ℕ) (form : Form) (ty : Ty) (before : Option Table) (now : Table) → GivesType parts form ty → ReadsBefore parts v before →
      ((o : EdgeId) → Contains (operands_now_by form) o → SizedAt parts now o) →
      ((o : EdgeId) → Contains (operands_now_by form) o → ReadsAt parts v now frame o) →
      ((i : ℕ) → form ≡ Input i → slice_index_or inputs i (value.Truth false) ≡ bits_value ty (bits v (circuit_by parts n form ty before now).result)) →
      Obeys v n (circuit_by parts n form ty before now).entries →
      bits_value ty (bits v (circuit_by parts n form ty before now).result) ≡ value_by parts.width form ty (frame_before parts v before) frame inputs
  value_law n (Input i) ty before now t b s r is o = sym (is i refl)
  value_law n (Const x) ty before now t b s r is o = ap (bits_value ty) (bits-constants v (value_bits parts x ty) one_true) ∙ value_of_bits parts x ty wide choices t
  value_law n (One f a) ty before now t b s r is o =
      let k = unary_typed f (type_of parts.edges a) ty t in
      unary_law parts v one_true wide f k.0 ty n (now a.0) k.2 (s a (first a a [] refl) k.0 k.1) o
      ∙ ap (unary_value parts.width f) (sym (r a (first a a [] refl) k.0 k.1))
  value_law n (Two f a c) ty before now t b s r is o =
      let k = binary_typed f (type_of parts.edges a) (type_of parts.edges c) ty t in
      let at_a = first a a (c ∷ []) refl in
      let at_c = later c a (c ∷ []) (first c c [] refl) in
      binary_law parts v one_true wide f k.0 k.1 ty n (now a.0) (now c.0) k.4 (s a at_a k.0 k.2) (s c at_c k.1 k.3) o
      ∙ ap₂ (binary_value parts.width f) (sym (r a at_a k.0 k.2)) (sym (r c at_c k.1 k.3))
  value_law n (Ite a c d) ty before now t b s r is o =
      let k = if_typed (type_of parts.edges a) (type_of parts.edges c) (type_of parts.edges d) ty t in
      let at_a = first a a (c ∷ d ∷ []) refl in
      let at_c = later c a (c ∷ d ∷ []) (first c c (d ∷ []) refl) in
      let at_d = later d a (c ∷ d ∷ []) (later d c (d ∷ []) (first d d [] refl)) in
      let test : truth v (only (now a.0)) ≡ is_true (at_edge frame a) = only_value v (now a.0) (s a at_a type.Truth k.0) ∙ ap is_true (sym (r a at_a type.Truth k.0)) in
      ap (bits_value ty) (ite_bits v n (only (now a.0)) (now c.0) (now d.0) (s c at_c ty k.1 ∙ sym (s d at_d ty k.2)) o)
      ∙ (choice_value ty (truth v (only (now a.0))) (bits v (now c.0)) (bits v (now d.0))
      ∙ rw (test, r c at_c ty k.1, r d at_d ty k.2) refl)
  value_law n (Arrow a c) ty None now t b s r is o = sym (r a (first a a (c ∷ []) refl) ty (arrow_typed (type_of parts.edges a) (type_of parts.edges c) ty t).0)
  value_law n (Arrow a c) ty (Some x) now t b s r is o = sym (r c (later c a (c ∷ []) (first c c [] refl)) ty (arrow_typed (type_of parts.edges a) (type_of parts.edges c) ty t).1)
  value_law n (Pre a) ty None now t b s r is o = ap (bits_value ty) (bits-constants v (value_bits parts (default ty) ty) one_true) ∙ default_of_bits parts ty wide choices
  value_law n (Pre a) ty (Some x) now t b s r is o = sym (b a ty t)
