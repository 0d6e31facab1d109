-- How many variables the gates of a path, a condition and the assertions take at most.
use Rattle.std.proofs.Common.{◌≡◌, ◌==◌, ℕ, zero, suc, ◌+◌, ◌*◌, ◌≤◌, List, [], ◌∷◌, ◌++◌, length, inl, inr, arith, Option, Some, None}
use Rattle.std.specs.Prelude.{slice_get, slice_set}
use Rattle.std.specs.Option.{option_map, option_map_or}
use Rattle.std.proofs.lemmas.Bool.{cases_Bool}
use Rattle.cnf_form.specs.declared.lit.Lit.{Lit}
use Rattle.op_network.specs.declared.edge.Edge.{Edge}
use Rattle.op_network.specs.declared.edge.EdgeId.{EdgeId}
use Rattle.op_network.specs.declared.form.Binary.{Binary}
use Rattle.op_network.specs.declared.form.Binary.TheVariants as two
use Rattle.op_network.specs.declared.form.Form.{Form}
use Rattle.op_network.specs.declared.form.Form.TheVariants.{Input, Const, One, Two, Ite, Arrow, Pre}
use Rattle.op_network.specs.Operators.{form_of, operands, operands_by}
use Rattle.bit_blast.specs.Circuit.{Circuit, Require, after, yes, no}
use Rattle.bit_blast.specs.Circuit as gate
use Rattle.bit_blast.proofs.Circuits.{after-append}
use Rattle.unroll_cnf.proofs.Totals.{ports_at}
use Rattle.dep_paths.specs.declared.path.Condition.{Condition}
use Rattle.dep_paths.specs.declared.path.Path.{Path}
use Rattle.dep_paths.specs.declared.path.Pin.{Pin}
use Rattle.dep_paths.specs.declared.path.Step.{Step}
use Rattle.dep_paths.specs.Observed.{Tag}
use Rattle.dep_paths.specs.Paths.{path_length}
use Rattle.goal_cnf.specs.Activity.{lit_at, begin_by, binary_condition, condition_by, if_condition, path_circuit, pin_circuit, place_circuit, place_in, steps_circuit}
use Rattle.goal_cnf.specs.Observation.{Past, adds, is_first, is_same_port, mask_circuit, operand_bit, operand_tag, outputs_circuit, passage_circuit, port_circuit, ports_circuit, start_circuit, tag_circuit, tag_in, tags_circuit, unmasked_by}
use Rattle.unroll_cnf.specs.Unrolled.{Table, only}
use Rattle.unroll_cnf.proofs.Weights.{weigh}
use Rattle.goal_cnf.specs.Goal.{adm_circuit}

-- ---- paths

binary_takes : (n : ℕ) (o : Binary) (port : ℕ) (a b m : Lit) → after n (binary_condition n o port a b m).entries ≤ n + 2
binary_takes n two.And zero a b m = omega arith
binary_takes n two.And (suc port) a b m = omega arith
binary_takes n two.Or zero a b m = omega arith
binary_takes n two.Or (suc port) a b m = omega arith
binary_takes n two.Imp zero a b m = omega arith
binary_takes n two.Imp (suc port) a b m = omega arith
binary_takes n two.Xor port a b m = omega arith
binary_takes n two.Eq port a b m = omega arith
binary_takes n two.Ne port a b m = omega arith
binary_takes n two.Lt port a b m = omega arith
binary_takes n two.Le port a b m = omega arith
binary_takes n two.Gt port a b m = omega arith
binary_takes n two.Ge port a b m = omega arith
binary_takes n two.Add port a b m = omega arith
binary_takes n two.Sub port a b m = omega arith
binary_takes n two.Mul port a b m = omega arith

if_takes : (n port : ℕ) (a m : Lit) → after n (if_condition n port a m).entries ≤ n + 2
if_takes n zero a m = omega arith
if_takes n (suc zero) a m = omega arith
if_takes n (suc (suc port)) a m = omega arith

condition_takes : (n : ℕ) (form : Form) (port : ℕ) (now : Table) (m : Lit) → after n (condition_by n form port now m).entries ≤ n + 2
condition_takes n (Input i) port now m = omega arith
condition_takes n (Const x) port now m = omega arith
condition_takes n (One o a) port now m = omega arith
condition_takes n (Two o a b) port now m = binary_takes n o port (only (now a.0)) (only (now b.0)) m
condition_takes n (Ite a b c) port now m = if_takes n port (only (now a.0)) m
condition_takes n (Arrow a b) port now m = omega arith
condition_takes n (Pre a) port now m = omega arith

pin_takes : (n : ℕ) (pin : Option Pin) (place : ℕ) (bit m : Lit) → after n (pin_circuit n pin place bit m).entries ≤ n + 1
pin_takes n None place bit m = omega arith
pin_takes n (Some pin) place bit m = elim (cases_Bool (place == pin.place)) [
  | inl c ↦ rw c (omega arith)
  | inr c ↦ rw c (omega arith)
]

place_takes : (n : ℕ) (pin : Option Pin) (place : ℕ) (s : Step) (edge : Option Edge) (now : Table) (shorter : Lit) (before : Option Lit) → after n (place_in n pin place s edge now shorter before).entries ≤ n + 3
place_takes n pin place s None now shorter before = omega arith
place_takes n pin place s (Some edge) now shorter before =
    let u = condition_by n (form_of edge.op) s.port now (begin_by (form_of edge.op) s.port shorter before) in
    let m = pin_circuit (after n u.entries) pin place (only (now s.edge.0)) u.result in
    omega (
      arith,
      after-append n u.entries m.entries,
      condition_takes n (form_of edge.op) s.port now (begin_by (form_of edge.op) s.port shorter before),
      pin_takes (after n u.entries) pin place (only (now s.edge.0)) u.result,
    )

steps_take : (n : ℕ) (edges : List Edge) (pin : Option Pin) (place : ℕ) (now : Table) (shorter : Lit) (before : Option (List Lit)) (steps : List Step) → after n (steps_circuit n edges pin place now shorter before steps).entries ≤ n + 3 * length steps
steps_take n edges pin place now shorter before [] = omega arith
steps_take n edges pin place now shorter before (s ∷ steps) =
    let one = place_circuit n edges pin place s now shorter before in
    let rest = steps_circuit (after n one.entries) edges pin (suc place) now one.result before steps in
    omega (
      arith,
      after-append n one.entries rest.entries,
      place_takes n pin (suc place) s (slice_get edges s.edge.0) now shorter (option_map (λ (ls : List Lit). lit_at ls place) before),
      steps_take (after n one.entries) edges pin (suc place) now one.result before steps,
    )

pub path_takes : (n : ℕ) (edges : List Edge) (pin : Option Pin) (p : Path) (now : Table) (before : Option (List Lit)) → after n (path_circuit n edges pin p now before).entries ≤ n + 3 * path_length p
path_takes n edges pin p now before =
    let one = pin_circuit n pin 0 (only (now p.start.0)) (yes 0) in
    let rest = steps_circuit (after n one.entries) edges pin 0 now one.result before p.steps in
    omega (
      arith,
      after-append n one.entries rest.entries,
      pin_takes n pin 0 (only (now p.start.0)) (yes 0),
      steps_take (after n one.entries) edges pin 0 now one.result before p.steps,
    )

-- ---- conditions

start_takes : (n : ℕ) (tag : Tag) (port : Condition) (bit s : Lit) → after n (start_circuit n tag port bit s).entries ≤ n + 1
start_takes n tag port bit s = elim (cases_Bool (is_same_port port tag.condition)) [
  | inl c ↦ rw c (omega arith)
  | inr c ↦ rw c (omega arith)
]

mask_takes : (n : ℕ) (unmasked : Option Lit) (s : Lit) → after n (mask_circuit n unmasked s).entries ≤ n + 1
mask_takes n None s = omega arith
mask_takes n (Some u) s = omega arith

passage_takes : (n : ℕ) (tag : Tag) (port : Condition) (unmasked : Option Lit) (bit s g : Lit) → after n (passage_circuit n tag port unmasked bit s g).entries ≤ n + 3
passage_takes n tag port unmasked bit s g =
    let one = start_circuit n tag port bit s in
    let n1 = after n one.entries in
    let two = mask_circuit n1 unmasked one.result in
    let last = gate.Or g two.result ∷ [] in
    omega (arith, after-append n one.entries (two.entries ++ last), after-append n1 two.entries last, start_takes n tag port bit s, mask_takes n1 unmasked one.result)

module _ (tag : Tag) (now : Table) (bit : Lit) (before : Option Past) where
  port_takes : (n : ℕ) (e : EdgeId) (form : Form) (tags : List Lit) (port : ℕ) (a : EdgeId) (g : Lit) → after n (port_circuit n tag e form now bit tags before port a g).entries ≤ n + 3
  port_takes n e form tags port a g = elim (cases_Bool (adds form port (is_first before))) [
    | inl c ↦ rw c (passage_takes n tag (record { edge = e; port = port }) (unmasked_by form port now) (operand_bit form bit before) (operand_tag form tags before a) g)
    | inr c ↦ rw c (omega arith)
  ]

  ports_take : (n : ℕ) (e : EdgeId) (form : Form) (tags : List Lit) (port : ℕ) (g : Lit) (operands : List EdgeId) → after n (ports_circuit n tag e form now bit tags before port g operands).entries ≤ n + 3 * length operands
  ports_take n e form tags port g [] = omega arith
  ports_take n e form tags port g (a ∷ operands) =
      let one = port_circuit n tag e form now bit tags before port a g in
      let rest = ports_circuit (after n one.entries) tag e form now bit tags before (suc port) one.result operands in
      omega (
        arith,
        after-append n one.entries rest.entries,
        port_takes n e form tags port a g,
        ports_take (after n one.entries) e form tags (suc port) one.result operands,
      )

  tag_takes : (n : ℕ) (e : EdgeId) (edge : Option Edge) (tags : List Lit) → after n (tag_in n tag e edge now bit tags before).entries ≤ n + 3 * option_map_or ports_at edge 0
  tag_takes n e None tags = omega arith
  tag_takes n e (Some edge) tags = ports_take n e (form_of edge.op) tags 0 (no 0) (operands_by (form_of edge.op))

  pub tags_take : (n : ℕ) (edges : List Edge) (tags : List Lit) (order : List EdgeId) → after n (tags_circuit n edges tag now bit before tags order).entries ≤ n + 3 * weigh (λ i. option_map_or ports_at (slice_get edges i) 0) order
  tags_take n edges tags [] = omega arith
  tags_take n edges tags (e ∷ order) =
      let one = tag_circuit n edges tag e now bit tags before in
      let rest = tags_circuit (after n one.entries) edges tag now bit before (slice_set tags e.0 one.result) order in
      omega (
        arith,
        after-append n one.entries rest.entries,
        tag_takes n e (slice_get edges e.0) tags,
        tags_take (after n one.entries) edges (slice_set tags e.0 one.result) order,
      )

pub outputs_take : (n : ℕ) (tags : List Lit) (m : Lit) (outputs : List EdgeId) → after n (outputs_circuit n tags m outputs).entries ≡ n + length outputs
outputs_take n tags m [] = omega arith
outputs_take n tags m (e ∷ outputs) = omega (arith, outputs_take (suc n) tags (yes n) outputs)

pub adm_takes : (n : ℕ) (now : Table) (adm : Lit) (asserts : List EdgeId) → after n (adm_circuit n now adm asserts).entries ≡ n + length asserts
adm_takes n now adm [] = omega arith
adm_takes n now adm (s ∷ asserts) = omega (arith, adm_takes (suc n) now (yes n) asserts)
