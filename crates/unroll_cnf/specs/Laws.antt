-- What the assignments that satisfy the formula of an unrolled network are.
use Rattle.std.specs.Prelude.{◌≡◌, ℕ, suc, Bool, List, [], ◌∷◌, map, length, All}
use Rattle.cnf_form.specs.Shape.{Satisfies}
use Rattle.op_network.specs.declared.edge.Edge.{Edge}
use Rattle.op_network.specs.declared.edge.EdgeId.{EdgeId}
use Rattle.op_network.specs.declared.edge.Parts.{Parts}
use Rattle.op_network.specs.declared.value.Value.{Value}
use Rattle.op_network.specs.Operators.{at_edge}
use Rattle.op_network.specs.Run.{IsRun}
use Rattle.op_network.specs.Valid.{IsValid, FitsRow}
use Rattle.lus_causality.specs.Causality.{IsSequence}
use Rattle.bit_blast.specs.Numbers.{bits}
use Rattle.unroll_cnf.specs.Values.{bits_value}
use Rattle.unroll_cnf.specs.Unrolled.{Table, unrolled, words}

-- the values that the words of some edges, from a place on, have under an assignment
abbrev pub values_from : (ℕ → Bool) → Table → ℕ → List Edge → List Value
values_from v table i [] = []
values_from v table i (edge ∷ edges) =
    bits_value edge.ty (bits v (table i)) ∷ values_from v table (suc i) edges

-- the frame of the words of an instant
abbrev pub frame_of : Parts → (ℕ → Bool) → Table → List Value
frame_of parts v table = values_from v table 0 parts.edges

-- the values of the inputs in it
abbrev pub row_of : Parts → (ℕ → Bool) → Table → List Value
row_of parts v table = map (at_edge (frame_of parts v table)) parts.inputs

abbrev pub frames_of : Parts → (ℕ → Bool) → List Table → List (List Value)
frames_of parts v tables = map (frame_of parts v) tables

abbrev pub rows_of : Parts → (ℕ → Bool) → List Table → List (List Value)
rows_of parts v tables = map (row_of parts v) tables

-- In each assignment that satisfies the formula, the words of the edges are the run of the words of
-- the inputs.
abbrev pub ModelsAreRuns : Type 0
ModelsAreRuns =
    (parts : Parts) (order : List EdgeId) (k : ℕ)
    → IsValid parts → IsSequence parts.edges order
    → (v : ℕ → Bool) → Satisfies v (unrolled parts order k)
    → let tables = words parts order k in
    IsRun parts.width parts.edges (rows_of parts v tables) (frames_of parts v tables)

-- For each list of rows that fit there is an assignment that satisfies the formula and gives the
-- words of the inputs these values.
abbrev pub RowsHaveModels : Type 0
RowsHaveModels =
    (parts : Parts) (order : List EdgeId) (rows : List (List Value))
    → IsValid parts → IsSequence parts.edges order
    → All (FitsRow parts) rows
    → let k = length rows in
    (v : ℕ → Bool) × Satisfies v (unrolled parts order k)
    × (rows_of parts v (words parts order k) ≡ rows)
