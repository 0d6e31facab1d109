-- The gates of an obligation, the assertions and the hits ask for no clause besides their own.
use Rattle.std.proofs.Common.{◌≡◌, ◌==◌, ℕ, zero, suc, Bool, List, [], ◌∷◌, ◌++◌, length, replicate, refl, inl, inr, Option, Some, None}
use Rattle.std.specs.Prelude.{slice_get, slice_set}
use Rattle.std.specs.Option.{option_map}
use Rattle.std.proofs.lemmas.Bool.{cases_Bool}
use Rattle.cnf_form.specs.declared.lit.Lit.{Lit}
use Rattle.op_network.specs.declared.edge.Edge.{Edge}
use Rattle.op_network.specs.declared.edge.EdgeId.{EdgeId}
use Rattle.op_network.specs.declared.edge.Parts.{Parts}
use Rattle.op_network.specs.declared.form.Binary.{Binary}
use Rattle.op_network.specs.declared.form.Binary.TheVariants as two
use Rattle.op_network.specs.declared.form.Form.{Form}
use Rattle.op_network.specs.declared.form.Form.TheVariants.{Input, Const, One, Two, Ite, Arrow, Pre}
use Rattle.op_network.specs.Operators.{form_of, operands_by}
use Rattle.bit_blast.specs.Circuit.{Entry, Free, Require, after, yes, no}
use Rattle.bit_blast.specs.Circuit as gate
use Rattle.bit_blast.proofs.Circuits.{required}
use Rattle.unroll_cnf.specs.Unrolled.{Table, only}
use Rattle.dep_paths.specs.declared.path.Condition.{Condition}
use Rattle.dep_paths.specs.declared.path.Obligation.{Obligation}
use Rattle.dep_paths.specs.declared.path.Obligation.TheVariants.{Bc, Ecc, Mcc, Omc}
use Rattle.dep_paths.specs.declared.path.Path.{Path}
use Rattle.dep_paths.specs.declared.path.Pin.{Pin}
use Rattle.dep_paths.specs.declared.path.Step.{Step}
use Rattle.dep_paths.specs.Activation.{first_pin}
use Rattle.dep_paths.specs.Duties.{Planned}
use Rattle.dep_paths.specs.Observed.{Tag}
use Rattle.goal_cnf.specs.Activity.{lit_at, begin_by, binary_condition, if_condition, condition_by, pin_circuit, place_in, place_circuit, steps_circuit, path_circuit}
use Rattle.goal_cnf.specs.Goal.{activation_in, observation_in, met_circuit, adm_circuit, hits, last_lit}
use Rattle.goal_cnf.specs.Observation.{Past, adds, is_first, is_same_port, start_circuit, mask_circuit, passage_circuit, operand_bit, operand_tag, port_circuit, ports_circuit, tag_in, tag_circuit, tags_circuit, outputs_circuit, condition_bit, past_in, observation, unmasked_by}

-- no clause is asked for
abbrev pub AsksNone : List Entry → Type 0
AsksNone es = required es ≡ 0

both_none : (c d : List Entry) → AsksNone c → AsksNone d → AsksNone (c ++ d)
both_none [] d p q = q
both_none (Free ∷ c) d p q = both_none c d p q
both_none (gate.And a b ∷ c) d p q = both_none c d p q
both_none (gate.Or a b ∷ c) d p q = both_none c d p q
both_none (gate.Xor a b ∷ c) d p q = both_none c d p q
both_none (gate.Ite a b x ∷ c) d p q = both_none c d p q
both_none (Require l ∷ c) d p q = absurd (cc)

-- ---- paths

binary_none : (n : ℕ) (o : Binary) (port : ℕ) (a b m : Lit) → AsksNone (binary_condition n o port a b m).entries
binary_none n two.And zero a b m = refl
binary_none n two.And (suc port) a b m = refl
binary_none n two.Or zero a b m = refl
binary_none n two.Or (suc port) a b m = refl
binary_none n two.Imp zero a b m = refl
binary_none n two.Imp (suc port) a b m = refl
binary_none n two.Xor port a b m = refl
binary_none n two.Eq port a b m = refl
binary_none n two.Ne port a b m = refl
binary_none n two.Lt port a b m = refl
binary_none n two.Le port a b m = refl
binary_none n two.Gt port a b m = refl
binary_none n two.Ge port a b m = refl
binary_none n two.Add port a b m = refl
binary_none n two.Sub port a b m = refl
binary_none n two.Mul port a b m = refl

if_none : (n port : ℕ) (a m : Lit) → AsksNone (if_condition n port a m).entries
if_none n zero a m = refl
if_none n (suc zero) a m = refl
if_none n (suc (suc port)) a m = refl

condition_none : (n : ℕ) (form : Form) (port : ℕ) (now : Table) (m : Lit) → AsksNone (condition_by n form port now m).entries
condition_none n (Input i) port now m = refl
condition_none n (Const v) port now m = refl
condition_none n (One o a) port now m = refl
condition_none n (Two o a b) port now m = binary_none n o port (only (now a.0)) (only (now b.0)) m
condition_none n (Ite a b c) port now m = if_none n port (only (now a.0)) m
condition_none n (Arrow a b) port now m = refl
condition_none n (Pre a) port now m = refl

pin_none : (n : ℕ) (pin : Option Pin) (place : ℕ) (bit m : Lit) → AsksNone (pin_circuit n pin place bit m).entries
pin_none n None place bit m = refl
pin_none n (Some pin) place bit m = elim (cases_Bool (place == pin.place)) [
  | inl c ↦ rw c refl
  | inr c ↦ rw c refl
]

place_none : (n : ℕ) (pin : Option Pin) (place : ℕ) (s : Step) (edge : Option Edge) (now : Table) (shorter : Lit) (before : Option Lit) → AsksNone (place_in n pin place s edge now shorter before).entries
place_none n pin place s None now shorter before = refl
place_none n pin place s (Some edge) now shorter before =
    let u = condition_by n (form_of edge.op) s.port now (begin_by (form_of edge.op) s.port shorter before) in
    both_none u.entries (pin_circuit (after n u.entries) pin place (only (now s.edge.0)) u.result).entries
    (condition_none n (form_of edge.op) s.port now (begin_by (form_of edge.op) s.port shorter before))
    (pin_none (after n u.entries) pin place (only (now s.edge.0)) u.result)

steps_none : (n : ℕ) (edges : List Edge) (pin : Option Pin) (place : ℕ) (now : Table) (shorter : Lit) (before : Option (List Lit)) (steps : List Step) → AsksNone (steps_circuit n edges pin place now shorter before steps).entries
steps_none n edges pin place now shorter before [] = refl
steps_none n edges pin place now shorter before (s ∷ steps) =
    let one = place_circuit n edges pin place s now shorter before in
    both_none one.entries (steps_circuit (after n one.entries) edges pin (suc place) now one.result before steps).entries
    (place_none n pin (suc place) s (slice_get edges s.edge.0) now shorter (option_map (λ (ls : List Lit). lit_at ls place) before))
    (steps_none (after n one.entries) edges pin (suc place) now one.result before steps)

path_none : (n : ℕ) (edges : List Edge) (pin : Option Pin) (p : Path) (now : Table) (before : Option (List Lit)) → AsksNone (path_circuit n edges pin p now before).entries
path_none n edges pin p now before =
    let one = pin_circuit n pin 0 (only (now p.start.0)) (yes 0) in
    both_none one.entries (steps_circuit (after n one.entries) edges pin 0 now one.result before p.steps).entries
    (pin_none n pin 0 (only (now p.start.0)) (yes 0))
    (steps_none (after n one.entries) edges pin 0 now one.result before p.steps)

-- ---- conditions

start_none : (n : ℕ) (tag : Tag) (port : Condition) (bit s : Lit) → AsksNone (start_circuit n tag port bit s).entries
start_none n tag port bit s = elim (cases_Bool (is_same_port port tag.condition)) [
  | inl c ↦ rw c refl
  | inr c ↦ rw c refl
]

mask_none : (n : ℕ) (unmasked : Option Lit) (s : Lit) → AsksNone (mask_circuit n unmasked s).entries
mask_none n None s = refl
mask_none n (Some u) s = refl

passage_none : (n : ℕ) (tag : Tag) (port : Condition) (unmasked : Option Lit) (bit s g : Lit) → AsksNone (passage_circuit n tag port unmasked bit s g).entries
passage_none n tag port unmasked bit s g =
    let one = start_circuit n tag port bit s in
    let two = mask_circuit (after n one.entries) unmasked one.result in
    both_none one.entries (two.entries ++ gate.Or g two.result ∷ []) (start_none n tag port bit s)
    (both_none two.entries (gate.Or g two.result ∷ []) (mask_none (after n one.entries) unmasked one.result) refl)

module _ (tag : Tag) (now : Table) (bit : Lit) (before : Option Past) where
  port_none : (n : ℕ) (e : EdgeId) (form : Form) (tags : List Lit) (port : ℕ) (a : EdgeId) (g : Lit) → AsksNone (port_circuit n tag e form now bit tags before port a g).entries
  port_none n e form tags port a g = elim (cases_Bool (adds form port (is_first before))) [
    | inl c ↦ rw c (passage_none n tag (record { edge = e; port = port }) (unmasked_by form port now) (operand_bit form bit before) (operand_tag form tags before a) g)
    | inr c ↦ rw c refl
  ]

  ports_none : (n : ℕ) (e : EdgeId) (form : Form) (tags : List Lit) (port : ℕ) (g : Lit) (operands : List EdgeId) → AsksNone (ports_circuit n tag e form now bit tags before port g operands).entries
  ports_none n e form tags port g [] = refl
  ports_none n e form tags port g (a ∷ operands) =
      let one = port_circuit n tag e form now bit tags before port a g in
      both_none one.entries (ports_circuit (after n one.entries) tag e form now bit tags before (suc port) one.result operands).entries
      (port_none n e form tags port a g)
      (ports_none (after n one.entries) e form tags (suc port) one.result operands)

  tag_none : (n : ℕ) (e : EdgeId) (edge : Option Edge) (tags : List Lit) → AsksNone (tag_in n tag e edge now bit tags before).entries
  tag_none n e None tags = refl
  tag_none n e (Some edge) tags = ports_none n e (form_of edge.op) tags 0 (no 0) (operands_by (form_of edge.op))

  tags_none : (n : ℕ) (edges : List Edge) (tags : List Lit) (order : List EdgeId) → AsksNone (tags_circuit n edges tag now bit before tags order).entries
  tags_none n edges tags [] = refl
  tags_none n edges tags (e ∷ order) =
      let one = tag_circuit n edges tag e now bit tags before in
      both_none one.entries (tags_circuit (after n one.entries) edges tag now bit before (slice_set tags e.0 one.result) order).entries
      (tag_none n e (slice_get edges e.0) tags)
      (tags_none (after n one.entries) edges (slice_set tags e.0 one.result) order)

outputs_none : (n : ℕ) (tags : List Lit) (m : Lit) (outputs : List EdgeId) → AsksNone (outputs_circuit n tags m outputs).entries
outputs_none n tags m [] = refl
outputs_none n tags m (e ∷ outputs) = outputs_none (suc n) tags (yes n) outputs

observation_none : (n : ℕ) (edges : List Edge) (order outputs : List EdgeId) (tag : Tag) (now : Table) (before : Option (List Lit)) → AsksNone (observation n edges order outputs tag now before).entries
observation_none n edges order outputs tag now before =
    let bit = condition_bit edges tag now in
    let past = past_in (length edges) before in
    let none = replicate (length edges) (no 0) in
    let all = tags_circuit n edges tag now bit past none order in
    both_none all.entries (outputs_circuit (after n all.entries) all.result (no 0) outputs).entries
    (tags_none tag now bit past n edges none order)
    (outputs_none (after n all.entries) all.result (no 0) outputs)

-- ---- an obligation

activation_none : (n : ℕ) (edges : List Edge) (pin : Option Pin) (p : Option Path) (now : Table) (before : Option (List Lit)) → AsksNone (activation_in n edges pin p now before).entries
activation_none n edges pin None now before = refl
activation_none n edges pin (Some p) now before = path_none n edges pin p now before

observed_none : (n : ℕ) (parts : Parts) (order : List EdgeId) (value : Bool) (c : Option Condition) (now : Table) (before : Option (List Lit)) → AsksNone (observation_in n parts order value c now before).entries
observed_none n parts order value None now before = refl
observed_none n parts order value (Some c) now before = observation_none n parts.edges order parts.outputs (record { condition = c; value = value }) now before

met_none : (n : ℕ) (parts : Parts) (order : List EdgeId) (plan : Planned) (o : Obligation) (now : Table) (before : Option (List Lit)) → AsksNone (met_circuit n parts order plan o now before).entries
met_none n parts order plan (Bc path) now before = activation_none n parts.edges None (slice_get plan.paths path) now before
met_none n parts order plan (Ecc path value) now before = activation_none n parts.edges (first_pin value) (slice_get plan.paths path) now before
met_none n parts order plan (Mcc path pin) now before = activation_none n parts.edges pin (slice_get plan.paths path) now before
met_none n parts order plan (Omc condition value) now before = observed_none n parts order value (slice_get plan.conditions condition) now before

adm_none : (n : ℕ) (now : Table) (adm : Lit) (asserts : List EdgeId) → AsksNone (adm_circuit n now adm asserts).entries
adm_none n now adm [] = refl
adm_none n now adm (s ∷ asserts) = adm_none (suc n) now (yes n) asserts

pub hits_none : (parts : Parts) (order : List EdgeId) (plan : Planned) (o : Obligation) (n : ℕ) (before : Option (List Lit)) (adm : Lit) (words : List Table) → AsksNone (hits parts order plan o n before adm words).entries
hits_none parts order plan o n before adm [] = refl
hits_none parts order plan o n before adm (now ∷ words) =
    let met = met_circuit n parts order plan o now before in
    let n1 = after n met.entries in
    let admitted = adm_circuit n1 now adm parts.asserts in
    let v = after n1 admitted.entries in
    let rest = hits parts order plan o (suc v) (Some met.result) admitted.result words in
    both_none met.entries (admitted.entries ++ (gate.And admitted.result (last_lit met.result) ∷ rest.entries)) (met_none n parts order plan o now before)
    (both_none admitted.entries (gate.And admitted.result (last_lit met.result) ∷ rest.entries) (adm_none n1 now adm parts.asserts)
    (hits_none parts order plan o (suc v) (Some met.result) admitted.result words))
