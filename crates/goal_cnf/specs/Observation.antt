-- The literals of a condition at an instant: one for each edge, which tells whether the condition
-- with its value reaches the edge.
use Rattle.std.specs.Prelude.{ℕ, zero, suc, Bool, true, false, ◌==◌, ◌&&◌, if◌then◌else◌, List, [], ◌∷◌, ◌++◌}
use Rattle.std.specs.Prelude.{length, replicate, Option, Some, None, slice_get, slice_set}
use Rattle.std.specs.Option.{option_map_or}
use Rattle.cnf_form.specs.declared.lit.Lit.{Lit}
use Rattle.cnf_form.specs.Lits.{turned}
use Rattle.op_network.specs.declared.edge.Edge.{Edge}
use Rattle.op_network.specs.declared.edge.EdgeId.{EdgeId}
use Rattle.op_network.specs.declared.form.Binary.{Binary}
use Rattle.op_network.specs.declared.form.Binary.TheVariants as two
use Rattle.op_network.specs.declared.form.Form.{Form}
use Rattle.op_network.specs.declared.form.Form.TheVariants.{Two, Ite, Arrow, Pre}
use Rattle.op_network.specs.Operators.{form_of, operands_by}
use Rattle.bit_blast.specs.Circuit.{Circuit, after, yes, no}
use Rattle.bit_blast.specs.Circuit as gate
use Rattle.unroll_cnf.specs.Unrolled.{Table, only}
use Rattle.dep_paths.specs.declared.path.Condition.{Condition}
use Rattle.dep_paths.specs.Conditions.{operand_at}
use Rattle.dep_paths.specs.Observed.{Tag}
use Rattle.goal_cnf.specs.Activity.{as_pinned, lit_at, unchanged, with_literal}

-- ---- one port

abbrev pub is_same_port : Condition → Condition → Bool
is_same_port a b = a.edge.0 == b.edge.0 && a.port == b.port

-- The literal of the column 'unmasked' of a port of an operator with two operands, over their bits;
-- none where the port is always unmasked.
abbrev pub binary_unmasked : Binary → ℕ → Lit → Lit → Option Lit
binary_unmasked two.And zero a b = Some b
binary_unmasked two.And (suc port) a b = Some a
binary_unmasked two.Or zero a b = Some (turned b)
binary_unmasked two.Or (suc port) a b = Some (turned a)
binary_unmasked two.Imp zero a b = Some (turned b)
binary_unmasked two.Imp (suc port) a b = Some a
binary_unmasked _ port a b = None

-- that of a port of `if`, over the bit of its first operand
abbrev pub if_unmasked : ℕ → Lit → Option Lit
if_unmasked zero a = None
if_unmasked (suc zero) a = Some a
if_unmasked (suc (suc port)) a = Some (turned a)

-- that of a port of an operator, over the words of an instant
abbrev pub unmasked_by : Form → ℕ → Table → Option Lit
unmasked_by (Two o a b) port now = binary_unmasked o port (only (now a.0)) (only (now b.0))
unmasked_by (Ite a b c) port now = if_unmasked port (only (now a.0))
unmasked_by _ port now = None

-- Whether a port adds anything, at the first instant or later: `Pre` adds nothing at the first,
-- port 0 of `Arrow` at the first alone, and port 1 only later.
abbrev pub adds : Form → ℕ → Bool → Bool
adds (Arrow a b) zero first = first
adds (Arrow a b) (suc port) true = false
adds (Arrow a b) (suc port) false = true
adds (Pre a) port true = false
adds (Pre a) port false = true
adds _ port first = true

-- s, and at the condition's port the operand's bit with the value besides
abbrev pub start_circuit : ℕ → Tag → Condition → Lit → Lit → Circuit Lit
start_circuit n tag port bit s =
    if is_same_port port tag.condition
    then (record { entries = gate.Or s (as_pinned tag.value bit) ∷ []; result = yes n })
    else unchanged s

-- s, where the port is unmasked
abbrev pub mask_circuit : ℕ → Option Lit → Lit → Circuit Lit
mask_circuit n None s = unchanged s
mask_circuit n (Some u) s = with_literal n s u

-- g, or what comes through a port: the literal s of its operand, whose bit is `bit`
abbrev pub passage_circuit : ℕ → Tag → Condition → Option Lit → Lit → Lit → Lit → Circuit Lit
passage_circuit n tag port unmasked bit s g =
    let one = start_circuit n tag port bit s in
    let two = mask_circuit (after n one.entries) unmasked one.result in
    let v = after (after n one.entries) two.entries in
    record {
      entries = one.entries ++ (two.entries ++ gate.Or g two.result ∷ []);
      result = yes v;
    }

-- ---- an edge

-- What is there of the instant before: for each edge its literal, and the bit of the condition's
-- operand. At the first instant there is none.
pub record Past : Type 0 where
  pub tags : List Lit
  pub bit : Lit

abbrev pub is_first : Option Past → Bool
is_first None = true
is_first (Some past) = false

-- the literal of an operand: that of the instant, and through `Pre` that of the instant before
abbrev pub operand_tag : Form → List Lit → Option Past → EdgeId → Lit
operand_tag (Pre b) tags None a = no 0
operand_tag (Pre b) tags (Some past) a = lit_at past.tags a.0
operand_tag _ tags before a = lit_at tags a.0

-- the bit of the condition's operand, in the same way
abbrev pub operand_bit : Form → Lit → Option Past → Lit
operand_bit (Pre b) bit None = bit
operand_bit (Pre b) bit (Some past) = past.bit
operand_bit _ bit before = bit

-- a port with its operand: g without a gate where it adds nothing
abbrev pub port_circuit : ℕ → Tag → EdgeId → Form → Table → Lit → List Lit → Option Past → ℕ
    → EdgeId → Lit → Circuit Lit
port_circuit n tag e form now bit tags before port a g =
    if adds form port (is_first before)
    then passage_circuit n tag (record { edge = e; port = port }) (unmasked_by form port now)
    (operand_bit form bit before) (operand_tag form tags before a) g
    else unchanged g

-- the ports from one on, with their operands
abbrev pub ports_circuit : ℕ → Tag → EdgeId → Form → Table → Lit → List Lit → Option Past → ℕ
    → Lit → List EdgeId → Circuit Lit
ports_circuit n tag e form now bit tags before port g [] = unchanged g
ports_circuit n tag e form now bit tags before port g (a ∷ operands) =
    let one = port_circuit n tag e form now bit tags before port a g in
    let rest =
    ports_circuit (after n one.entries) tag e form now bit tags before (suc port) one.result
    operands
    in
    record { entries = one.entries ++ rest.entries; result = rest.result }

abbrev pub tag_in : ℕ → Tag → EdgeId → Option Edge → Table → Lit → List Lit → Option Past
    → Circuit Lit
tag_in n tag e None now bit tags before = unchanged (no 0)
tag_in n tag e (Some edge) now bit tags before =
    let form = form_of edge.op in
    ports_circuit n tag e form now bit tags before 0 (no 0) (operands_by form)

-- an edge, behind the literals of the edges before it in the order
abbrev pub tag_circuit : ℕ → List Edge → Tag → EdgeId → Table → Lit → List Lit → Option Past
    → Circuit Lit
tag_circuit n edges tag e now bit tags before =
    tag_in n tag e (slice_get edges e.0) now bit tags before

-- ---- an instant

-- the edges of a list one after the other
abbrev pub tags_circuit : ℕ → List Edge → Tag → Table → Lit → Option Past → List Lit → List EdgeId
    → Circuit (List Lit)
tags_circuit n edges tag now bit before tags [] = record { entries = []; result = tags }
tags_circuit n edges tag now bit before tags (e ∷ order) =
    let one = tag_circuit n edges tag e now bit tags before in
    let rest =
    tags_circuit (after n one.entries) edges tag now bit before
    (slice_set tags e.0 one.result) order
    in
    record { entries = one.entries ++ rest.entries; result = rest.result }

-- m, or the literal of an output, for each output in order
abbrev pub outputs_circuit : ℕ → List Lit → Lit → List EdgeId → Circuit Lit
outputs_circuit n tags m [] = unchanged m
outputs_circuit n tags m (e ∷ outputs) =
    let rest = outputs_circuit (suc n) tags (yes n) outputs in
    record { entries = gate.Or m (lit_at tags e.0) ∷ rest.entries; result = rest.result }

-- the bit of the condition's operand at an instant
abbrev pub condition_bit : List Edge → Tag → Table → Lit
condition_bit edges tag now =
    option_map_or (λ (a : EdgeId). only (now a.0)) (operand_at edges tag.condition) (no 0)

-- the literals of an instant before are those of all edges, the bit of the condition's operand, and
-- whether the condition was observed
abbrev pub past_of : ℕ → List Lit → Past
past_of count ls = record { tags = ls; bit = lit_at ls count }

abbrev pub past_in : ℕ → Option (List Lit) → Option Past
past_in count None = None
past_in count (Some ls) = Some (past_of count ls)

-- The literals of a condition with a value at an instant, behind those of the instant before: one
-- for each edge, the bit of its operand, and whether it is observed.
abbrev pub observation : ℕ → List Edge → List EdgeId → List EdgeId → Tag → Table
    → Option (List Lit) → Circuit (List Lit)
observation n edges order outputs tag now before =
    let bit = condition_bit edges tag now in
    let past = past_in (length edges) before in
    let all = tags_circuit n edges tag now bit past (replicate (length edges) (no 0)) order in
    let met = outputs_circuit (after n all.entries) all.result (no 0) outputs in
    record {
      entries = all.entries ++ met.entries;
      result = all.result ++ bit ∷ met.result ∷ [];
    }
