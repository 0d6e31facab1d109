-- The text of `run` over a network: what is printed of its runs over tests.
use Rattle.std.specs.Prelude.{ℕ, Bool, List, [], ◌∷◌, ◌++◌, length, map, codes}
use Rattle.std.specs.List.{flat_map, list_all}
use Rattle.op_network.specs.declared.edge.EdgeId.{EdgeId}
use Rattle.op_network.specs.declared.edge.Parts.{Parts}
use Rattle.op_network.specs.declared.test.Test.{Test}
use Rattle.op_network.specs.declared.value.Value.{Value}
use Rattle.op_network.specs.Operators.{at_edge}
use Rattle.op_network.specs.Run.{IsRun, rows}
use Rattle.op_network.specs.Values.{is_true}
use Rattle.cov_report.specs.Values.{Name, edge_line}
use Rattle.cov_station.specs.Failures.{failure_line, first_failure}

-- the values of an edge in these frames, instant by instant
abbrev pub stream_in : List (List Value) → EdgeId → List Value
stream_in frames e = map (λ frame. at_edge frame e) frames

-- a line for each of these edges: its name, and its values in these frames
abbrev pub edge_lines : Parts → List (List Value) → List EdgeId → List ℕ
edge_lines parts frames ids = flat_map (λ e. edge_line parts e (stream_in frames e)) ids

-- whether all assert edges are true in a frame
abbrev pub are_asserted : Parts → List Value → Bool
are_asserted parts frame = list_all (λ e. is_true (at_edge frame e)) parts.asserts

-- the same of each of these frames
abbrev pub asserted : Parts → List (List Value) → List Bool
asserted parts frames = map (are_asserted parts) frames

-- The text of a test of this name, in whose run the network has these frames: the lines of the
-- inputs and of the outputs, and where an assertion fails the first instant at which one does.
abbrev pub test_text : Parts → Name → List (List Value) → List ℕ
test_text parts name frames = codes "test " ++ (name ++ 10 ∷ (edge_lines parts frames parts.inputs
    ++ (edge_lines parts frames parts.outputs
    ++ failure_line (first_failure (asserted parts frames)))))

-- the rows of a test's inputs
abbrev pub input_rows : Parts → Test → List (List Value)
input_rows parts test = rows (length parts.inputs) test.instants test.values

-- The bytes are the text of the network's runs over the tests, test by test. A run has all instants
-- of its test, whether or not an assertion fails.
pub data NetworkText (parts : Parts) : List Test → List ℕ → Type 0 where
  no_tests : NetworkText parts [] []
  more_tests : {test : Test} {tests : List Test} {text : List ℕ} (frames : List (List Value))
      → IsRun parts.width parts.edges (input_rows parts test) frames
      → NetworkText parts tests text
      → NetworkText parts (test ∷ tests) (test_text parts test.name frames ++ text)
