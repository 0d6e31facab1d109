-- What a suite's records mean: relations between records and tests.
use Rattle.std.specs.Prelude.{◌≡◌, ◌≢◌, ℕ, suc, ◌+◌, List, ◌∷◌, codes, length, map, Some, Ok, slice_get, All, AllPairs}
use Rattle.std.specs.List.{AllZip, Contains, flat_map}
use Rattle.op_network.specs.Run.{rows}
use Rattle.op_network.specs.Valid.{IsValid}
use Rattle.op_network.specs.declared.edge.EdgeId.{EdgeId}
use Rattle.op_network.specs.declared.edge.Parts.{Parts}
use Rattle.op_network.specs.declared.test.Test.{Test}
use Rattle.op_network.specs.declared.value.Value.{Value}
use Rattle.suite_file.specs.Records.{Text, suite_records}
use Rattle.suite_file.specs.Suites.{AreOfSuite, input_names, name_of, suite_of, type_at}
use Rattle.suite_file.specs.Values.{value_of}

-- the columns of a header behind `test`: each input once, in any order
pub record AreColumns (parts : Parts) (columns : List Text) : Type 0 where
  pub known : All (λ name. Contains (input_names parts) name) columns
  pub once : AllPairs (λ a b. a ≢ b) columns
  pub each : All (λ name. Contains columns name) (input_names parts)

-- a record gives an input this value: the field in the input's column names it
pub record Gives (parts : Parts) (columns fields : List Text) (input : EdgeId) (value : Value)
    : Type 0 where
  pub column : ℕ
  pub field : Text
  pub named : slice_get columns column ≡ Some (name_of parts.edges input)
  pub there : slice_get fields (suc column) ≡ Some field
  pub read : value_of parts (type_at parts.edges input.0) field ≡ Some value

-- a record is an instant: the name of its test, and a field for each column, which give the inputs
-- these values
pub record IsInstant (parts : Parts) (columns : List Text) (instant : Text × List Value)
    (fields : List Text) : Type 0 where
  pub width : length fields ≡ length columns + 1
  pub name : slice_get fields 0 ≡ Some instant.0
  pub values : AllZip (Gives parts columns fields) parts.inputs instant.1

-- the instants of a test, each with the test's name
abbrev pub instants : Parts → Test → List (Text × List Value)
instants parts test =
    map (λ values. (test.name, values)) (rows (length parts.inputs) test.instants test.values)

-- the instants of tests, test by test
abbrev pub all_instants : Parts → List Test → List (Text × List Value)
all_instants parts tests = flat_map (instants parts) tests

-- records hold these tests: a header, and behind it a record for each instant, test by test
pub record AreRecordsOf (parts : Parts) (records : List (List Text)) (tests : List Test)
    : Type 0 where
  pub columns : List Text
  pub body : List (List Text)
  pub header : records ≡ (codes "test" ∷ columns) ∷ body
  pub inputs : AreColumns parts columns
  pub each : AllZip (IsInstant parts columns) (all_instants parts tests) body

-- a text whose records hold the tests of a suite is read as these tests
abbrev pub IsAccepted : Type 0
IsAccepted = (parts : Parts) (bytes : Text) (tests : List Test) → IsValid parts
    → AreOfSuite parts tests → AreRecordsOf parts (suite_records bytes) tests → suite_of parts bytes ≡ Ok tests
