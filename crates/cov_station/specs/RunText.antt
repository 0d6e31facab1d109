-- What `run` prints: for each test its name, the inputs and the outputs with their values, and
-- where an assertion fails.
use Rattle.std.specs.Prelude.{◌≡◌, ℕ, Bool, List, [], ◌∷◌, ◌++◌, length, map, codes, Option}
use Rattle.std.specs.List.{flat_map, zip}
use Rattle.std.specs.Option.{option_map_or}
use Rattle.lus_types.specs.Programs.{Enumeration, Node, Program, Variable}
use Rattle.node_expand.specs.Network.{inputs_of}
use Rattle.node_expand.specs.NodeRuns.{NodeRun}
use Rattle.node_expand.specs.Streams.{Stream, HaveLength, rows_of}
use Rattle.op_network.specs.declared.test.Test.{Test}
use Rattle.op_network.specs.Run.{rows}
use Rattle.cov_report.specs.Values.{Enumerators, stream_line}
use Rattle.cov_station.specs.Failures.{failure_line, first_failure}
use Rattle.cov_station.specs.Sources.{Source}

-- the names of the enumerators of a program's types
abbrev pub enumerators : Program → Enumerators
enumerators program = map (λ (e : Enumeration). e.names) program.types

abbrev pub outputs_of : Option Node → List Variable
outputs_of found = option_map_or (λ (node : Node). node.outputs) found []

-- the inputs and the outputs of main
abbrev pub inputs : Source → List Variable
inputs source = inputs_of (source.program.node source.main)

abbrev pub outputs : Source → List Variable
outputs source = outputs_of (source.program.node source.main)

-- the streams of a test's inputs: at each instant they have its values
pub record AreInputsOf (source : Source) (test : Test) (ins : List Stream) : Type 0 where
  pub count : length ins ≡ length (inputs source)
  pub lengths : HaveLength test.instants ins
  pub values : rows_of test.instants ins ≡ rows (length (inputs source)) test.instants test.values

-- a line for each of these variables: its name, and the values of its stream
abbrev pub variable_lines : Enumerators → List Variable → List Stream → List ℕ
variable_lines types variables streams =
    flat_map (λ p. stream_line types p.0.name p.0.ty p.1) (zip variables streams)

-- the text of one test, whose inputs and outputs have these streams, and whose assertions are all
-- true just at the instants where `ok` is true
abbrev pub test_text : Source → Test → List Stream → List Stream → List Bool → List ℕ
test_text source test ins outs ok =
    let types = enumerators source.program in
    codes "test " ++ (test.name ++ 10 ∷ (variable_lines types (inputs source) ins
    ++ (variable_lines types (outputs source) outs ++ failure_line (first_failure ok))))

-- The bytes are the text of main's runs over the tests, test by test. A run has all instants of its
-- test, whether or not an assertion fails.
pub data RunText (source : Source) : List Test → List ℕ → Type 0 where
  no_tests : RunText source [] []
  more_tests : {test : Test} {tests : List Test} {text : List ℕ} (ins outs : List Stream) (ok : List Bool)
      → AreInputsOf source test ins
      → NodeRun source.program source.main test.instants ins outs ok
      → RunText source tests text
      → RunText source (test ∷ tests) (test_text source test ins outs ok ++ text)
