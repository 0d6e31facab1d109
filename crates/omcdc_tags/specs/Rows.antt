-- Sets of ports with values as they are computed at an instant.
use Rattle.std.specs.Prelude.{◌≡◌, ◌<◌, ◌≤◌, ◌+◌, ◌*◌, ◌↔◌, ◌⊎◌, ℕ, Bool, true, false, List, Option, Some, length, slice_get, slice_set}
use Rattle.op_network.specs.declared.edge.Edge.{Edge}
use Rattle.op_network.specs.declared.edge.EdgeId.{EdgeId}
use Rattle.op_network.specs.declared.value.Value.{Value}
use Rattle.op_network.specs.Operators.{is_unmasked}
use Rattle.dep_paths.specs.declared.path.Condition.{Condition}
use Rattle.dep_paths.specs.Activation.{Frames, frame_at}
use Rattle.dep_paths.specs.Conditions.{operand_at}
use Rattle.omcdc_tags.specs.declared.limits.TheConstants.{MOST_OPERANDS, MOST_PORTS}
use Rattle.omcdc_tags.specs.declared.sets.TagSets.{TagSets}
use Rattle.dep_paths.specs.Observed.{IsUnmasked, is_pre_edge}
use Rattle.omcdc_tags.specs.Ports.{IsTable, index_of}
use Rattle.omcdc_tags.specs.Tags.{AreReached, AreValues, OperandHas, Sets, bit_of_tag, has_bit, row_at}

-- the bits of a row, and those of P besides
pub record Adds (old new : List Bool) (P : ℕ → Type 0) : Type 0 where
  pub size : length new ≡ length old
  pub each : (k : ℕ) → (has_bit new k ≡ true) ↔ ((has_bit old k ≡ true) ⊎ P k)

-- ---- what comes to an edge

-- a port is unmasked at an instant with this frame
pub record IsOpen (edges : List Edge) (frame : List Value) (t : ℕ) (port : Condition) : Type 0 where
  pub edge : Edge
  pub there : slice_get edges port.edge.0 ≡ Some edge
  pub unmasked : is_unmasked edge.op port.port frame t ≡ true

-- the bit is that of the port, where it has a place, and a value that its operand has
pub record StartsBit (table : List (Option ℕ)) (values : List Bool) (port : Condition) (k : ℕ) : Type 0 where
  pub place : ℕ
  pub there : slice_get table (index_of port) ≡ Some (Some place)
  pub bit : (k ≡ bit_of_tag place true) ⊎ (k ≡ bit_of_tag place false)
  pub has : has_bit values k ≡ true

-- A bit comes through a port: the port is unmasked, and the bit starts there or is in the row of the operand.
pub record BitComes (edges : List Edge) (table : List (Option ℕ)) (frame : List Value) (t : ℕ) (rows : List (List Bool)) (values : List Bool) (port : Condition) (k : ℕ) : Type 0 where
  pub operand : EdgeId
  pub read : operand_at edges port ≡ Some operand
  pub unmasked : IsOpen edges frame t port
  pub comes : StartsBit table values port k ⊎ (has_bit (row_at rows operand) k ≡ true)

-- a bit comes through a port of an edge
pub record ComesIn (edges : List Edge) (table : List (Option ℕ)) (frame : List Value) (t : ℕ) (rows : List (List Bool)) (values : List Bool) (e : EdgeId) (k : ℕ) : Type 0 where
  pub port : ℕ
  pub comes : BitComes edges table frame t rows values (record { edge = e; port = port }) k

-- through one of the first n
pub record ComesBelow (edges : List Edge) (table : List (Option ℕ)) (frame : List Value) (t : ℕ) (rows : List (List Bool)) (values : List Bool) (e : EdgeId) (n k : ℕ) : Type 0 where
  pub port : ℕ
  pub below : port < n
  pub comes : BitComes edges table frame t rows values (record { edge = e; port = port }) k

-- what comes to an edge: to a `Pre` by the rows of the instant before, where there is one, to any other by those of the same
abbrev pub EdgeComes : Bool → Bool → (ℕ → Type 0) → (ℕ → Type 0) → ℕ → Type 0
EdgeComes true true Earlier Now k = Earlier k
EdgeComes true false Earlier Now k = ⊥
EdgeComes false begun Earlier Now k = Now k

-- 0 at the first instant, 1 later
abbrev pub kind_of : Bool → ℕ
kind_of true = 1
kind_of false = 0

-- what comes to an edge at an instant, by the rows at hand
abbrev pub RowComes : List Edge → List (Option ℕ) → List Value → Bool → List (List Bool) → List Bool → List (List Bool) → List Bool → EdgeId → ℕ → Type 0
RowComes edges table frame begun before earlier rows starts e = EdgeComes (is_pre_edge edges e) begun
    (ComesIn edges table frame (kind_of begun) before earlier e)
    (ComesIn edges table frame (kind_of begun) rows starts e)

-- the row of an edge is put, and it has what comes to the edge
pub record PutsRow (edges : List Edge) (table : List (Option ℕ)) (frame : List Value) (begun : Bool) (before : List (List Bool)) (earlier : List Bool) (rows : List (List Bool)) (starts : List Bool) (e : EdgeId) (new : List (List Bool)) : Type 0 where
  pub row : List Bool
  pub each : (k : ℕ) → (has_bit row k ≡ true) ↔ RowComes edges table frame begun before earlier rows starts e k
  pub put : new ≡ slice_set rows e.0 row

-- ---- what is at hand

-- the ports of an edge are open by the frame at hand exactly where they are unmasked at the instant
pub record OpensAt (edges : List Edge) (frames : Frames) (frame : List Value) (t u : ℕ) (e : EdgeId) : Type 0 where
  pub open_iff : (p : ℕ) → IsOpen edges frame t (record { edge = e; port = p }) ↔ IsUnmasked edges frames (record { port = record { edge = e; port = p }; instant = u })

-- what is at hand at instant t
pub record Ready (edges : List Edge) (ports : List Condition) (table : List (Option ℕ)) (frames : Frames) (t : ℕ) (frame : List Value) (begun : Bool) (before : List (List Bool)) (earlier starts : List Bool) : Type 0 where
  pub placed : IsTable (length edges) ports table
  pub now : frame_at frames t ≡ frame
  pub fresh : AreValues edges ports frame starts
  pub first : begun ≡ false → t ≡ 0
  pub later : begun ≡ true → (u : ℕ) × (t ≡ u + 1) × AreReached edges ports frames u before × AreValues edges ports (frame_at frames u) earlier

-- the rows of all edges are made from what is at hand
abbrev pub FillsRows : List Edge → List (Option ℕ) → List Value → Bool → List (List Bool) → List Bool → List Bool → List (List Bool) → Type 0
FillsRows edges table frame begun before earlier starts new = (ports : List Condition) (frames : Frames) (t : ℕ) → Ready edges ports table frames t frame begun before earlier starts → AreReached edges ports frames t new

-- the values of the ports before a place, and none from it on
pub record ValuesBelow (edges : List Edge) (ports : List Condition) (frame : List Value) (i : ℕ) (values : List Bool) : Type 0 where
  pub done : (j : ℕ) (c : Condition) (v : Bool) → j < i → slice_get ports j ≡ Some c → (has_bit values (bit_of_tag j v) ≡ true) ↔ OperandHas edges frame v c
  pub rest : (k : ℕ) → 2 * i ≤ k → has_bit values k ≡ true → ⊥

-- the row of one of the first outputs has the bit
pub record OutputHasBelow (outputs : List EdgeId) (rows : List (List Bool)) (n k : ℕ) : Type 0 where
  pub place : ℕ
  pub output : EdgeId
  pub before : place < n
  pub there : slice_get outputs place ≡ Some output
  pub has : has_bit (row_at rows output) k ≡ true

-- the row has the bits of the rows of the outputs
pub record JoinsRows (outputs : List EdgeId) (rows : List (List Bool)) (row : List Bool) : Type 0 where
  pub each : (k : ℕ) → (has_bit row k ≡ true) ↔ OutputHasBelow outputs rows (length outputs) k

-- ---- sizes

-- the table, the rows, that of the values and the one in work are those of so many edges and of one number of ports
pub record HaveSize (edges : ℕ) (table : List (Option ℕ)) (rows : List (List Bool)) (starts work : List Bool) : Type 0 where
  pub few : length starts ≤ 2 * MOST_PORTS
  pub wide : length table ≡ MOST_OPERANDS * edges
  pub places : (j k : ℕ) → slice_get table j ≡ Some (Some k) → 2 * k + 1 < length starts
  pub many : length rows ≡ edges
  pub row : (e : EdgeId) → e.0 < length rows → length (row_at rows e) ≡ length starts
  pub in_work : length work ≡ length starts

-- what is kept is that of so many edges and of these ports
pub record AreSized (edges : ℕ) (ports : List Condition) (table : List (Option ℕ)) (sets : TagSets) : Type 0 where
  pub few : length ports ≤ MOST_PORTS
  pub placed : IsTable edges ports table
  pub observed : length sets.observed ≡ 2 * length ports
  pub values : length sets.values ≡ 2 * length ports
  pub earlier : length sets.earlier ≡ 2 * length ports
  pub now : HaveSize edges table sets.reached sets.values sets.work
  pub before : HaveSize edges table sets.before sets.earlier sets.work

-- the sets of the last instant, without what is kept of the one before
abbrev pub sets_of : TagSets → Sets
sets_of sets = record { reached = sets.reached; observed = sets.observed; values = sets.values; begun = sets.begun }
