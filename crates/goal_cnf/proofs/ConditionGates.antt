-- The gates of a condition: each reads variables before its own.
use Rattle.std.proofs.Common.{◌≡◌, ℕ, zero, suc, ◌<◌, ◌≤◌, List, [], ◌∷◌, ◌++◌, length, replicate, refl, sym, ap, ◌∙◌, subst, inl, inr, arith, Option, Some, None}
use Rattle.std.specs.Prelude.{slice_get, slice_set}
use Rattle.std.specs.Option.{option_map_or}
use Rattle.std.proofs.lemmas.Bool.{cases_Bool}
use Rattle.cnf_form.specs.declared.lit.Lit.{Lit}
use Rattle.op_network.specs.declared.edge.Edge.{Edge}
use Rattle.op_network.specs.declared.edge.EdgeId.{EdgeId}
use Rattle.op_network.specs.declared.edge.Parts.{Parts}
use Rattle.op_network.specs.declared.form.Binary.{Binary}
use Rattle.op_network.specs.declared.form.Binary.TheVariants as two
use Rattle.op_network.specs.declared.form.Form.{Form}
use Rattle.op_network.specs.declared.form.Form.TheVariants.{Input, Const, One, Two, Ite, Arrow, Pre}
use Rattle.op_network.specs.declared.value.Ty.{Ty}
use Rattle.op_network.specs.declared.value.Ty.TheVariants as type
use Rattle.op_network.specs.Operators.{form_of, operands_by}
use Rattle.op_network.specs.Valid.{type_of, GivesType, IsValid}
use Rattle.bit_blast.specs.Circuit.{Circuit, after, yes, no}
use Rattle.bit_blast.specs.Circuit as gate
use Rattle.bit_blast.proofs.Values.{AreGates}
use Rattle.bit_blast.proofs.Circuits.{after-append, after_more, gates_both}
use Rattle.bit_blast.proofs.Made.{Within, within_both, within_more}
use Rattle.unroll_cnf.specs.Unrolled.{Table, only}
use Rattle.unroll_cnf.proofs.Placed.{PlacedBefore, placed_before_more}
use Rattle.unroll_cnf.proofs.Placing.{only_below, turned_below}
use Rattle.unroll_cnf.proofs.Runs.{edge_typed}
use Rattle.unroll_cnf.proofs.Typed.{binary_typed, if_typed}
use Rattle.dep_paths.specs.declared.path.Condition.{Condition}
use Rattle.dep_paths.specs.Observed.{Tag}
use Rattle.goal_cnf.specs.Observation.{Past, adds, binary_unmasked, condition_bit, if_unmasked, is_first, is_same_port, mask_circuit, observation, operand_bit, operand_tag, outputs_circuit, passage_circuit, past_in, port_circuit, ports_circuit, start_circuit, tag_circuit, tag_in, tags_circuit, unmasked_by}
use Rattle.goal_cnf.proofs.Observation.{ReadsTruth}
use Rattle.goal_cnf.proofs.PathGates.{OptionBelow, PastWithin, Sound, lit_within, literal_sound, pinned_below, unchanged_sound}

-- ---- one port

start_sound : (n : ℕ) (tag : Tag) (port : Condition) (bit s : Lit) → bit.var < n → s.var < n → Sound n (start_circuit n tag port bit s)
start_sound n tag port bit s p q = elim (cases_Bool (is_same_port port tag.condition)) [
  | inl c ↦ rw c (record { gates = (tt, (q, pinned_below n tag.value bit p), tt); below = omega arith })
  | inr c ↦ rw c (unchanged_sound n s q)
]

mask_sound : (n : ℕ) (unmasked : Option Lit) (s : Lit) → OptionBelow n unmasked → s.var < n → Sound n (mask_circuit n unmasked s)
mask_sound n None s p q = unchanged_sound n s q
mask_sound n (Some u) s p q = literal_sound n s u q p

option_below_more : (n m : ℕ) (l : Option Lit) → n ≤ m → OptionBelow n l → OptionBelow m l
option_below_more n m None le p = tt
option_below_more n m (Some l) le p = omega (arith, le, p)

passage_sound : (n : ℕ) (tag : Tag) (port : Condition) (unmasked : Option Lit) (bit s g : Lit) → OptionBelow n unmasked → bit.var < n → s.var < n → g.var < n → Sound n (passage_circuit n tag port unmasked bit s g)
passage_sound n tag port unmasked bit s g u p q r =
    let one = start_circuit n tag port bit s in
    let n1 = after n one.entries in
    let le1 = after_more n one.entries in
    let two = mask_circuit n1 unmasked one.result in
    let n2 = after n1 two.entries in
    let le2 = after_more n1 two.entries in
    let last = gate.Or g two.result ∷ [] in
    let c = start_sound n tag port bit s p q in
    let d = mask_sound n1 unmasked one.result (option_below_more n n1 unmasked le1 u) c.below in
    let end : after n (one.entries ++ (two.entries ++ last)) ≡ suc n2 = after-append n one.entries (two.entries ++ last) ∙ after-append n1 two.entries last in
    record {
      gates = gates_both n one.entries (two.entries ++ last) c.gates (gates_both n1 two.entries last d.gates (tt, (omega (arith, r, le1, le2), d.below), tt));
      below = subst (λ x. n2 < x) (sym end) (omega arith);
    }

binary_unmasked_below : (n : ℕ) (o : Binary) (port : ℕ) (a b : Lit) → a.var < n → b.var < n → OptionBelow n (binary_unmasked o port a b)
binary_unmasked_below n two.And zero a b p q = q
binary_unmasked_below n two.And (suc port) a b p q = p
binary_unmasked_below n two.Or zero a b p q = turned_below n b q
binary_unmasked_below n two.Or (suc port) a b p q = turned_below n a p
binary_unmasked_below n two.Imp zero a b p q = turned_below n b q
binary_unmasked_below n two.Imp (suc port) a b p q = p
binary_unmasked_below n two.Xor port a b p q = tt
binary_unmasked_below n two.Eq port a b p q = tt
binary_unmasked_below n two.Ne port a b p q = tt
binary_unmasked_below n two.Lt port a b p q = tt
binary_unmasked_below n two.Le port a b p q = tt
binary_unmasked_below n two.Gt port a b p q = tt
binary_unmasked_below n two.Ge port a b p q = tt
binary_unmasked_below n two.Add port a b p q = tt
binary_unmasked_below n two.Sub port a b p q = tt
binary_unmasked_below n two.Mul port a b p q = tt

if_unmasked_below : (n port : ℕ) (a : Lit) → a.var < n → OptionBelow n (if_unmasked port a)
if_unmasked_below n zero a p = tt
if_unmasked_below n (suc zero) a p = p
if_unmasked_below n (suc (suc port)) a p = turned_below n a p

-- ---- what is there of the instant before

-- it is of variables below n
abbrev pub PastBelow : ℕ → Option Past → Type 0
PastBelow n None = Unit {0}
PastBelow n (Some past) = Within n past.tags × (past.bit.var < n)

past_below_more : (n m : ℕ) (before : Option Past) → n ≤ m → PastBelow n before → PastBelow m before
past_below_more n m None le p = tt
past_below_more n m (Some past) le p = (within_more n m past.tags le p.0, omega (arith, le, p.1))

past_in_below : (n count : ℕ) (before : Option (List Lit)) → 0 < n → PastWithin n before → PastBelow n (past_in count before)
past_in_below n count None h p = tt
past_in_below n count (Some ls) h p = (p, lit_within n ls count h p)

operand_tag_below : (n : ℕ) (form : Form) (tags : List Lit) (before : Option Past) (a : EdgeId) → 0 < n → Within n tags → PastBelow n before → (operand_tag form tags before a).var < n
operand_tag_below n (Pre c) tags None a h w p = h
operand_tag_below n (Pre c) tags (Some past) a h w p = lit_within n past.tags a.0 h p.0
operand_tag_below n (Input i) tags before a h w p = lit_within n tags a.0 h w
operand_tag_below n (Const x) tags before a h w p = lit_within n tags a.0 h w
operand_tag_below n (One o c) tags before a h w p = lit_within n tags a.0 h w
operand_tag_below n (Two o c d) tags before a h w p = lit_within n tags a.0 h w
operand_tag_below n (Ite c d e) tags before a h w p = lit_within n tags a.0 h w
operand_tag_below n (Arrow c d) tags before a h w p = lit_within n tags a.0 h w

operand_bit_below : (n : ℕ) (form : Form) (bit : Lit) (before : Option Past) → bit.var < n → PastBelow n before → (operand_bit form bit before).var < n
operand_bit_below n (Pre c) bit None b p = b
operand_bit_below n (Pre c) bit (Some past) b p = p.1
operand_bit_below n (Input i) bit before b p = b
operand_bit_below n (Const x) bit before b p = b
operand_bit_below n (One o c) bit before b p = b
operand_bit_below n (Two o c d) bit before b p = b
operand_bit_below n (Ite c d e) bit before b p = b
operand_bit_below n (Arrow c d) bit before b p = b

-- ---- lists

within_set : (n : ℕ) (ls : List Lit) (i : ℕ) (l : Lit) → Within n ls → l.var < n → Within n (slice_set ls i l)
within_set n [] i l w p = tt
within_set n (x ∷ ls) zero l w p = (p, w.1)
within_set n (x ∷ ls) (suc i) l w p = (w.0, within_set n ls i l w.1 p)

within_copies : (n count : ℕ) (l : Lit) → l.var < n → Within n (replicate count l)
within_copies n zero l p = tt
within_copies n (suc count) l p = (p, within_copies n count l p)

pub outputs_sound : (n : ℕ) (tags : List Lit) (m : Lit) (outputs : List EdgeId) → 0 < n → Within n tags → m.var < n → Sound n (outputs_circuit n tags m outputs)
outputs_sound n tags m [] h w q = unchanged_sound n m q
outputs_sound n tags m (e ∷ outputs) h w q =
    let r = outputs_sound (suc n) tags (yes n) outputs (omega arith) (within_more n (suc n) tags (omega arith) w) (omega arith) in
    record { gates = (tt, (q, lit_within n tags e.0 h w), r.gates); below = r.below }

-- ---- an instant

module _ (parts : Parts) (valid : IsValid parts) (now : Table) where
  unmasked_below : (n : ℕ) (form : Form) (port : ℕ) (ty : Ty) → 0 < n → GivesType parts form ty → PlacedBefore parts n (Some now) → OptionBelow n (unmasked_by form port now)
  unmasked_below n (Input i) port ty h g p = tt
  unmasked_below n (Const x) port ty h g p = tt
  unmasked_below n (One o a) port ty h g p = tt
  unmasked_below n (Two o a c) port ty h g p =
      let k = binary_typed o (type_of parts.edges a) (type_of parts.edges c) ty g in
      binary_unmasked_below n o port (only (now a.0)) (only (now c.0)) (only_below n (now a.0) h (p a k.0 k.2)) (only_below n (now c.0) h (p c k.1 k.3))
  unmasked_below n (Ite a c d) port ty h g p =
      let k = if_typed (type_of parts.edges a) (type_of parts.edges c) (type_of parts.edges d) ty g in
      if_unmasked_below n port (only (now a.0)) (only_below n (now a.0) h (p a type.Truth k.0))
  unmasked_below n (Arrow a c) port ty h g p = tt
  unmasked_below n (Pre a) port ty h g p = tt

  module _ (tag : Tag) (bit : Lit) (before : Option Past) where
    port_sound : (n : ℕ) (e : EdgeId) (form : Form) (ty : Ty) (tags : List Lit) (port : ℕ) (a : EdgeId) (g : Lit) → 0 < n → GivesType parts form ty → PlacedBefore parts n (Some now) → bit.var < n → PastBelow n before → Within n tags → g.var < n
        → Sound n (port_circuit n tag e form now bit tags before port a g)
    port_sound n e form ty tags port a g h t w b p k r = elim (cases_Bool (adds form port (is_first before))) [
      | inl c ↦ rw c (passage_sound n tag (record { edge = e; port = port }) (unmasked_by form port now) (operand_bit form bit before) (operand_tag form tags before a) g
          (unmasked_below n form port ty h t w) (operand_bit_below n form bit before b p) (operand_tag_below n form tags before a h k p) r)
      | inr c ↦ rw c (unchanged_sound n g r)
    ]

    ports_sound : (n : ℕ) (e : EdgeId) (form : Form) (ty : Ty) (tags : List Lit) (port : ℕ) (g : Lit) (operands : List EdgeId) → 0 < n → GivesType parts form ty → PlacedBefore parts n (Some now) → bit.var < n → PastBelow n before → Within n tags → g.var < n
        → Sound n (ports_circuit n tag e form now bit tags before port g operands)
    ports_sound n e form ty tags port g [] h t w b p k r = unchanged_sound n g r
    ports_sound n e form ty tags port g (a ∷ operands) h t w b p k r =
        let one = port_circuit n tag e form now bit tags before port a g in
        let n1 = after n one.entries in
        let le = after_more n one.entries in
        let rest = ports_circuit n1 tag e form now bit tags before (suc port) one.result operands in
        let c = port_sound n e form ty tags port a g h t w b p k r in
        let d = ports_sound n1 e form ty tags (suc port) one.result operands (omega (arith, h, le)) t (placed_before_more parts n n1 (Some now) le w) (omega (arith, b, le))
        (past_below_more n n1 before le p) (within_more n n1 tags le k) c.below in
        record { gates = gates_both n one.entries rest.entries c.gates d.gates; below = subst (λ x. rest.result.var < x) (sym (after-append n one.entries rest.entries)) d.below }

    tag_sound : (n : ℕ) (e : EdgeId) (edge : Option Edge) (tags : List Lit) → slice_get parts.edges e.0 ≡ edge → 0 < n → PlacedBefore parts n (Some now) → bit.var < n → PastBelow n before → Within n tags
        → Sound n (tag_in n tag e edge now bit tags before)
    tag_sound n e None tags is h w b p k = unchanged_sound n (no 0) h
    tag_sound n e (Some edge) tags is h w b p k =
        ports_sound n e (form_of edge.op) edge.ty tags 0 (no 0) (operands_by (form_of edge.op)) h (edge_typed parts valid e.0 edge is) w b p k h

    tags_sound : (n : ℕ) (tags : List Lit) (order : List EdgeId) → 0 < n → PlacedBefore parts n (Some now) → bit.var < n → PastBelow n before → Within n tags
        → AreGates n (tags_circuit n parts.edges tag now bit before tags order).entries × Within (after n (tags_circuit n parts.edges tag now bit before tags order).entries) (tags_circuit n parts.edges tag now bit before tags order).result
    tags_sound n tags [] h w b p k = (tt, k)
    tags_sound n tags (e ∷ order) h w b p k =
        let one = tag_circuit n parts.edges tag e now bit tags before in
        let n1 = after n one.entries in
        let le = after_more n one.entries in
        let put = slice_set tags e.0 one.result in
        let rest = tags_circuit n1 parts.edges tag now bit before put order in
        let c = tag_sound n e (slice_get parts.edges e.0) tags refl h w b p k in
        let r = tags_sound n1 put order (omega (arith, h, le)) (placed_before_more parts n n1 (Some now) le w) (omega (arith, b, le)) (past_below_more n n1 before le p)
        (within_set n1 tags e.0 one.result (within_more n n1 tags le k) c.below) in (
          gates_both n one.entries rest.entries c.gates r.0,
          subst (λ x. Within x rest.result) (sym (after-append n one.entries rest.entries)) r.1,
        )

  pub observation_sound : (order outputs : List EdgeId) (tag : Tag) (n : ℕ) (before : Option (List Lit)) → 0 < n → ReadsTruth parts.edges tag.condition → PlacedBefore parts n (Some now) → PastWithin n before
      → AreGates n (observation n parts.edges order outputs tag now before).entries × Within (after n (observation n parts.edges order outputs tag now before).entries) (observation n parts.edges order outputs tag now before).result
  observation_sound order outputs tag n before h reads w b =
      let count = length parts.edges in
      let bit = condition_bit parts.edges tag now in
      let past = past_in count before in
      let nothing = replicate count (no 0) in
      let all = tags_circuit n parts.edges tag now bit past nothing order in
      let n1 = after n all.entries in
      let le1 = after_more n all.entries in
      let met = outputs_circuit n1 all.result (no 0) outputs in
      let n2 = after n1 met.entries in
      let le2 = after_more n1 met.entries in
      let operand = only (now reads.operand.0) in
      let bit_is : operand ≡ bit = ap (λ (o : Option EdgeId). option_map_or (λ (a : EdgeId). only (now a.0)) o (no 0)) (sym reads.read) in
      let bit_below : bit.var < n = subst (λ (l : Lit). l.var < n) bit_is (only_below n (now reads.operand.0) h (w reads.operand type.Truth reads.truth)) in
      let c = tags_sound tag bit past n nothing order h w bit_below (past_in_below n count before h b) (within_copies n count (no 0) h) in
      let some : 0 < n1 = omega (arith, h, le1) in
      let d = outputs_sound n1 all.result (no 0) outputs some c.1 some in (
        gates_both n all.entries met.entries c.0 d.gates,
        subst (λ x. Within x (all.result ++ bit ∷ met.result ∷ [])) (sym (after-append n all.entries met.entries))
            (within_both n2 all.result (bit ∷ met.result ∷ []) (within_more n1 n2 all.result le2 c.1) (omega (arith, bit_below, le1, le2), (d.below, tt))),
      )
