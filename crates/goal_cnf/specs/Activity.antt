-- The literals of a path at an instant: one for each of its places, which tells whether the path up
-- to there is active.
use Rattle.std.specs.Prelude.{ℕ, zero, suc, Bool, ◌==◌, if◌then◌else◌, List, [], ◌∷◌, ◌++◌, Option, Some, None, slice_get, slice_index_or}
use Rattle.std.specs.Option.{option_map}
use Rattle.cnf_form.specs.declared.lit.Lit.{Lit}
use Rattle.cnf_form.specs.Lits.{turned}
use Rattle.op_network.specs.declared.edge.Edge.{Edge}
use Rattle.op_network.specs.declared.form.Binary.{Binary}
use Rattle.op_network.specs.declared.form.Binary.TheVariants as two
use Rattle.op_network.specs.declared.form.Form.{Form}
use Rattle.op_network.specs.declared.form.Form.TheVariants.{Two, Ite, Arrow, Pre}
use Rattle.op_network.specs.Operators.{form_of}
use Rattle.bit_blast.specs.Circuit.{Circuit, after, yes, no}
use Rattle.bit_blast.specs.Circuit as gate
use Rattle.unroll_cnf.specs.Unrolled.{Table, only}
use Rattle.dep_paths.specs.declared.path.Path.{Path}
use Rattle.dep_paths.specs.declared.path.Pin.{Pin}
use Rattle.dep_paths.specs.declared.path.Step.{Step}

-- ---- one literal

-- the literal at a place
abbrev pub lit_at : List Lit → ℕ → Lit
lit_at ls i = slice_index_or ls i (no 0)

-- m without a gate
abbrev pub unchanged : Lit → Circuit Lit
unchanged m = record { entries = []; result = m }

-- m and u
abbrev pub with_literal : ℕ → Lit → Lit → Circuit Lit
with_literal n m u = record { entries = gate.And m u ∷ []; result = yes n }

-- m, and a or b
abbrev pub with_either : ℕ → Lit → Lit → Lit → Circuit Lit
with_either n m a b =
    record { entries = gate.Or a b ∷ gate.And m (yes n) ∷ []; result = yes (suc n) }

-- m and the step condition of a port of an operator with two operands, over their bits
abbrev pub binary_condition : ℕ → Binary → ℕ → Lit → Lit → Lit → Circuit Lit
binary_condition n two.And zero a b m = with_either n m (turned a) b
binary_condition n two.And (suc port) a b m = with_either n m (turned b) a
binary_condition n two.Or zero a b m = with_either n m a (turned b)
binary_condition n two.Or (suc port) a b m = with_either n m b (turned a)
binary_condition n two.Imp zero a b m = with_either n m (turned a) (turned b)
binary_condition n two.Imp (suc port) a b m = with_either n m b a
binary_condition n _ port a b m = unchanged m

-- m and that of a port of `if`, over the bit of its first operand
abbrev pub if_condition : ℕ → ℕ → Lit → Lit → Circuit Lit
if_condition n zero a m = unchanged m
if_condition n (suc zero) a m = with_literal n m a
if_condition n (suc (suc port)) a m = with_literal n m (turned a)

-- m and the step condition of a port, over the words of an instant
abbrev pub condition_by : ℕ → Form → ℕ → Table → Lit → Circuit Lit
condition_by n (Two o a b) port now m =
    binary_condition n o port (only (now a.0)) (only (now b.0)) m
condition_by n (Ite a b c) port now m = if_condition n port (only (now a.0)) m
condition_by n _ port now m = unchanged m

-- With what a place begins: the literal of the place before at the instant, through `Pre` that of
-- the instant before, and `no` where the step asks for another instant. Before instant 0 there is
-- none.
abbrev pub begin_by : Form → ℕ → Lit → Option Lit → Lit
begin_by (Arrow a b) zero shorter None = shorter
begin_by (Arrow a b) zero shorter (Some before) = no 0
begin_by (Arrow a b) (suc port) shorter None = no 0
begin_by (Arrow a b) (suc port) shorter (Some before) = shorter
begin_by (Pre a) port shorter None = no 0
begin_by (Pre a) port shorter (Some before) = before
begin_by _ port shorter before = shorter

-- a bit where the value is true, and else its negation
abbrev pub as_pinned : Bool → Lit → Lit
as_pinned value bit = if value then bit else turned bit

-- m, and at the place of the pin what it asks of the edge's bit
abbrev pub pin_circuit : ℕ → Option Pin → ℕ → Lit → Lit → Circuit Lit
pin_circuit n None place bit m = unchanged m
pin_circuit n (Some pin) place bit m =
    if place == pin.place then with_literal n m (as_pinned pin.value bit) else unchanged m

-- ---- a path

-- The place behind a step through a port of an operator of this form, over the literal of the place
-- before at the instant and at the instant before.
abbrev pub place_by : ℕ → Option Pin → ℕ → Step → Form → Table → Lit → Option Lit → Circuit Lit
place_by n pin place s form now shorter before =
    let u = condition_by n form s.port now (begin_by form s.port shorter before) in
    let m = pin_circuit (after n u.entries) pin place (only (now s.edge.0)) u.result in
    record { entries = u.entries ++ m.entries; result = m.result }

abbrev pub place_in : ℕ → Option Pin → ℕ → Step → Option Edge → Table → Lit → Option Lit
    → Circuit Lit
place_in n pin place s None now shorter before = unchanged (no 0)
place_in n pin place s (Some edge) now shorter before =
    place_by n pin place s (form_of edge.op) now shorter before

-- the place behind a step, behind the literals of all places at the instant before
abbrev pub place_circuit : ℕ → List Edge → Option Pin → ℕ → Step → Table → Lit → Option (List Lit)
    → Circuit Lit
place_circuit n edges pin place s now shorter before =
    place_in n pin (suc place) s (slice_get edges s.edge.0) now shorter
    (option_map (λ (ls : List Lit). lit_at ls place) before)

-- the places behind some steps, from the place with the literal `shorter` on
abbrev pub steps_circuit : ℕ → List Edge → Option Pin → ℕ → Table → Lit → Option (List Lit)
    → List Step → Circuit (List Lit)
steps_circuit n edges pin place now shorter before [] = record { entries = []; result = [] }
steps_circuit n edges pin place now shorter before (s ∷ steps) =
    let one = place_circuit n edges pin place s now shorter before in
    let rest = steps_circuit (after n one.entries) edges pin (suc place) now one.result before steps
    in
    record { entries = one.entries ++ rest.entries; result = one.result ∷ rest.result }

-- all places of a path, behind their literals at the instant before
abbrev pub path_circuit : ℕ → List Edge → Option Pin → Path → Table → Option (List Lit)
    → Circuit (List Lit)
path_circuit n edges pin p now before =
    let one = pin_circuit n pin 0 (only (now p.start.0)) (yes 0) in
    let rest = steps_circuit (after n one.entries) edges pin 0 now one.result before p.steps in
    record { entries = one.entries ++ rest.entries; result = one.result ∷ rest.result }
