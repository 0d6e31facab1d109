-- What the literal of an edge tells behind one of its ports, in truths.
use Rattle.std.proofs.Common.{◌≡◌, ◌==◌, ℕ, zero, suc, Bool, true, false, ◌&&◌, ◌||◌, List, [], ◌∷◌, ◌++◌, refl, sym, ap, ap₂, ◌∙◌, inl, inr, arith, Option, Some, None}
use Rattle.std.specs.Prelude.{nat_le}
use Rattle.std.proofs.lemmas.Bool.{cases_Bool}
use Rattle.std.proofs.lemmas.Bool.Decides.{nat_tests}
use Rattle.cnf_form.specs.declared.lit.Lit.{Lit}
use Rattle.cnf_form.specs.Lits.{truth}
use Rattle.cnf_form.proofs.LitFacts.{truth-turned}
use Rattle.op_network.specs.declared.edge.EdgeId.{EdgeId}
use Rattle.op_network.specs.declared.edge.Parts.{Parts}
use Rattle.op_network.specs.declared.form.Binary.{Binary}
use Rattle.op_network.specs.declared.form.Binary.TheVariants as two
use Rattle.op_network.specs.declared.form.Form.{Form}
use Rattle.op_network.specs.declared.form.Form.TheVariants.{Input, Const, One, Two, Ite, Arrow, Pre}
use Rattle.op_network.specs.declared.value.Ty.{Ty}
use Rattle.op_network.specs.Operators.{is_binary_unmasked, is_chosen, is_unmasked_by}
use Rattle.op_network.specs.Valid.{type_of, GivesType}
use Rattle.bit_blast.specs.Circuit.{after}
use Rattle.bit_blast.specs.Circuit as gate
use Rattle.bit_blast.proofs.Values.{Obeys}
use Rattle.bit_blast.proofs.Circuits.{obeys_parts, truth-yes}
use Rattle.unroll_cnf.specs.Laws.{frame_of}
use Rattle.unroll_cnf.specs.Unrolled.{Table, only}
use Rattle.unroll_cnf.proofs.Typed.{if_typed}
use Rattle.dep_paths.specs.declared.path.Condition.{Condition}
use Rattle.dep_paths.specs.Activation.{Frames, frame_at}
use Rattle.dep_paths.specs.Observed.{Tag, is_pre}
use Rattle.goal_cnf.specs.Activity.{as_pinned}
use Rattle.goal_cnf.specs.Observation.{Past, adds, binary_unmasked, if_unmasked, is_first, is_same_port, mask_circuit, operand_bit, operand_tag, passage_circuit, port_circuit, start_circuit, unmasked_by}
use Rattle.goal_cnf.proofs.Places.{AllSized, OverTruths, literal_law, over_truths, truth_at}

or_false : (a : Bool) → a ≡ (a || false)
or_false true = refl
or_false false = refl

pub and_true : (a : Bool) → a ≡ (a && true)
and_true true = refl
and_true false = refl

-- ---- the gates of a port

-- the condition with its value starts at a port, where the operand has this bit
abbrev pub starts : (ℕ → Bool) → Tag → Condition → Lit → Bool
starts v tag port bit = is_same_port port tag.condition && truth v (as_pinned tag.value bit)

start_law : (v : ℕ → Bool) (n : ℕ) (tag : Tag) (port : Condition) (bit s : Lit) → Obeys v n (start_circuit n tag port bit s).entries → truth v (start_circuit n tag port bit s).result ≡ (truth v s || starts v tag port bit)
start_law v n tag port bit s o = elim (cases_Bool (is_same_port port tag.condition)) [
  | inl c ↦ at_condition c o
  | inr c ↦ rw c (or_false (truth v s))
]
  where
    at_condition : is_same_port port tag.condition ≡ true → Obeys v n (start_circuit n tag port bit s).entries → truth v (start_circuit n tag port bit s).result ≡ (truth v s || starts v tag port bit)
    at_condition c = rw c (λ o. truth-yes v n ∙ o.0)

-- a port without a literal of its own is unmasked
abbrev pub is_open : (ℕ → Bool) → Option Lit → Bool
is_open v None = true
is_open v (Some u) = truth v u

mask_law : (v : ℕ → Bool) (n : ℕ) (unmasked : Option Lit) (s : Lit) → Obeys v n (mask_circuit n unmasked s).entries → truth v (mask_circuit n unmasked s).result ≡ (is_open v unmasked && truth v s)
mask_law v n None s o = refl
mask_law v n (Some u) s o = literal_law v n s u o

passage_law : (v : ℕ → Bool) (n : ℕ) (tag : Tag) (port : Condition) (unmasked : Option Lit) (bit s g : Lit) → Obeys v n (passage_circuit n tag port unmasked bit s g).entries
    → truth v (passage_circuit n tag port unmasked bit s g).result ≡ (truth v g || (is_open v unmasked && (truth v s || starts v tag port bit)))
passage_law v n tag port unmasked bit s g o =
    let one = start_circuit n tag port bit s in
    let n1 = after n one.entries in
    let two = mask_circuit n1 unmasked one.result in
    let n2 = after n1 two.entries in
    let p = obeys_parts v n one.entries (two.entries ++ gate.Or g two.result ∷ []) o in
    let q = obeys_parts v n1 two.entries (gate.Or g two.result ∷ []) p.1 in
    truth-yes v n2
    ∙ (q.1.0
    ∙ ap (λ x. truth v g || x)
    (mask_law v n1 unmasked one.result q.0 ∙ ap (λ x. is_open v unmasked && x) (start_law v n tag port bit s p.0)))

-- a port of an operator adds something, and is unmasked
abbrev pub opens : (ℕ → Bool) → Form → ℕ → Table → Bool → Bool
opens v form port now first = adds form port first && is_open v (unmasked_by form port now)

pub port_law : (v : ℕ → Bool) (n : ℕ) (tag : Tag) (e : EdgeId) (form : Form) (now : Table) (bit : Lit) (tags : List Lit) (before : Option Past) (port : ℕ) (a : EdgeId) (g : Lit)
    → Obeys v n (port_circuit n tag e form now bit tags before port a g).entries
    → truth v (port_circuit n tag e form now bit tags before port a g).result
    ≡ (truth v g || (opens v form port now (is_first before) && (truth v (operand_tag form tags before a) || starts v tag (record { edge = e; port = port }) (operand_bit form bit before))))
port_law v n tag e form now bit tags before port a g o = elim (cases_Bool (adds form port (is_first before))) [
  | inl c ↦ at_passage c o
  | inr c ↦ rw c (or_false (truth v g))
]
  where
    at_passage : adds form port (is_first before) ≡ true → Obeys v n (port_circuit n tag e form now bit tags before port a g).entries
        → truth v (port_circuit n tag e form now bit tags before port a g).result
        ≡ (truth v g || (opens v form port now (is_first before) && (truth v (operand_tag form tags before a) || starts v tag (record { edge = e; port = port }) (operand_bit form bit before))))
    at_passage c = rw c (λ o. passage_law v n tag (record { edge = e; port = port }) (unmasked_by form port now) (operand_bit form bit before) (operand_tag form tags before a) g o)

-- ---- unmasked

binary_open : (v : ℕ → Bool) (o : Binary) (port : ℕ) (a b : Lit) → (is_open v (binary_unmasked o port a b) ≡ is_binary_unmasked o port (truth v a) (truth v b))
binary_open v two.And zero a b = refl
binary_open v two.And (suc port) a b = refl
binary_open v two.Or zero a b = truth-turned v b
binary_open v two.Or (suc port) a b = truth-turned v a
binary_open v two.Imp zero a b = truth-turned v b
binary_open v two.Imp (suc port) a b = refl
binary_open v two.Xor port a b = refl
binary_open v two.Eq port a b = refl
binary_open v two.Ne port a b = refl
binary_open v two.Lt port a b = refl
binary_open v two.Le port a b = refl
binary_open v two.Gt port a b = refl
binary_open v two.Ge port a b = refl
binary_open v two.Add port a b = refl
binary_open v two.Sub port a b = refl
binary_open v two.Mul port a b = refl

if_open : (v : ℕ → Bool) (port : ℕ) (a : Lit) → is_open v (if_unmasked port a) ≡ is_chosen port (truth v a)
if_open v zero a = refl
if_open v (suc zero) a = refl
if_open v (suc (suc port)) a = truth-turned v a

module _ (parts : Parts) (v : ℕ → Bool) (now : Table) (sized : AllSized parts now) (frames : Frames) (t : ℕ) (here : frame_at frames t ≡ frame_of parts v now) where
  binary_unmasked_at : (o : Binary) (port : ℕ) (a b : EdgeId) → OverTruths parts o a b → is_open v (unmasked_by (Two o a b) port now) ≡ is_unmasked_by (Two o a b) port (frame_of parts v now) t
  binary_unmasked_at two.And port a b h = binary_open v two.And port (only (now a.0)) (only (now b.0)) ∙ ap₂ (is_binary_unmasked two.And port) (truth_at parts v now sized a h.0) (truth_at parts v now sized b h.1)
  binary_unmasked_at two.Or port a b h = binary_open v two.Or port (only (now a.0)) (only (now b.0)) ∙ ap₂ (is_binary_unmasked two.Or port) (truth_at parts v now sized a h.0) (truth_at parts v now sized b h.1)
  binary_unmasked_at two.Imp port a b h = binary_open v two.Imp port (only (now a.0)) (only (now b.0)) ∙ ap₂ (is_binary_unmasked two.Imp port) (truth_at parts v now sized a h.0) (truth_at parts v now sized b h.1)
  binary_unmasked_at two.Xor port a b h = refl
  binary_unmasked_at two.Eq port a b h = refl
  binary_unmasked_at two.Ne port a b h = refl
  binary_unmasked_at two.Lt port a b h = refl
  binary_unmasked_at two.Le port a b h = refl
  binary_unmasked_at two.Gt port a b h = refl
  binary_unmasked_at two.Ge port a b h = refl
  binary_unmasked_at two.Add port a b h = refl
  binary_unmasked_at two.Sub port a b h = refl
  binary_unmasked_at two.Mul port a b h = refl

  -- a port of an operator other than `Pre` adds something just where it is unmasked at the instant
  pub opens_law : (form : Form) (port : ℕ) (ty : Ty) (first : Bool) → GivesType parts form ty → is_pre form ≡ false → first ≡ (t == 0) → opens v form port now first ≡ is_unmasked_by form port (frame_at frames t) t
  opens_law (Input i) port ty first g other at = refl
  opens_law (Const x) port ty first g other at = refl
  opens_law (One o a) port ty first g other at = refl
  opens_law (Two o a b) port ty first g other at =
      binary_unmasked_at o port a b (over_truths parts o a b ty g) ∙ ap (λ frame. is_unmasked_by (Two o a b) port frame t) (sym here)
  opens_law (Ite a b c) port ty first g other at =
      let k = if_typed (type_of parts.edges a) (type_of parts.edges b) (type_of parts.edges c) ty g in
      if_open v port (only (now a.0))
      ∙ (ap (is_chosen port) (truth_at parts v now sized a k.0) ∙ ap (λ frame. is_unmasked_by (Ite a b c) port frame t) (sym here))
  opens_law (Arrow a b) zero ty first g other at = sym (and_true first) ∙ at
  opens_law (Arrow a b) (suc port) ty first g other at = later first t at
    where
      later : (first : Bool) (t : ℕ) → first ≡ (t == 0) → (adds (Arrow a b) (suc port) first && true) ≡ nat_le 1 t
      later true zero at = refl
      later true (suc t) at = absurd (grind (arith, nat_tests, at))
      later false zero at = absurd (grind (arith, nat_tests, at))
      later false (suc t) at = grind (arith, nat_tests)
  opens_law (Pre a) port ty first g other at = cc
