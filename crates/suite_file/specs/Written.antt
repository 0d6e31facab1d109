-- The text of a suite.
use Rattle.std.specs.Prelude.{◌≡◌, Ok, ℕ, cond, List, [], ◌∷◌, codes, length, map, Option, Some, None, slice_get, unwrap_or}
use Rattle.std.specs.List.{flat_map}
use Rattle.std.specs.Fmt.{signed_decimal}
use Rattle.csv.specs.Writing.{default_writer, row_text}
use Rattle.op_network.specs.declared.edge.EdgeId.{EdgeId}
use Rattle.op_network.specs.declared.edge.Choice.{Choice}
use Rattle.op_network.specs.declared.edge.Parts.{Parts}
use Rattle.op_network.specs.declared.test.Test.{Test}
use Rattle.op_network.specs.declared.value.Ty.{Ty}
use Rattle.op_network.specs.declared.value.Ty.TheVariants as type
use Rattle.op_network.specs.declared.value.Value.{Value}
use Rattle.op_network.specs.declared.value.Value.TheVariants.{Truth, Word, Choice as Enumerator}
use Rattle.op_network.specs.Run.{rows}
use Rattle.suite_file.specs.Records.{Text}
use Rattle.op_network.specs.Valid.{IsValid}
use Rattle.suite_file.specs.Suites.{input_names, type_at, suite_of, AreOfSuite}

abbrev pub enumerator_name : Option Choice → ℕ → Text
enumerator_name None k = []
enumerator_name (Some choice) k = unwrap_or (slice_get choice.names k) []

abbrev pub enumerator_text : Parts → Ty → ℕ → Text
enumerator_text parts type.Truth k = []
enumerator_text parts type.Word k = []
enumerator_text parts (type.Choice c) k = enumerator_name (slice_get parts.choices c) k

-- `0`, `1`, a plain decimal or an enumerator
abbrev pub value_text : Parts → Ty → Value → Text
value_text parts ty (Truth b) = cond b (codes "1") (codes "0")
value_text parts ty (Word w) = signed_decimal w
value_text parts ty (Enumerator k) = enumerator_text parts ty k

-- the values of inputs, in order
abbrev pub texts_of : Parts → List EdgeId → List Value → List Text
texts_of parts [] values = []
texts_of parts (e ∷ inputs) [] = []
texts_of parts (e ∷ inputs) (v ∷ values) =
    value_text parts (type_at parts.edges e.0) v ∷ texts_of parts inputs values

-- the record of an instant
abbrev pub instant_record : Parts → Text → List Value → List Text
instant_record parts name values = name ∷ texts_of parts parts.inputs values

abbrev pub test_records : Parts → Test → List (List Text)
test_records parts test =
    map (instant_record parts test.name) (rows (length parts.inputs) test.instants test.values)

abbrev pub header_record : Parts → List Text
header_record parts = codes "test" ∷ input_names parts

abbrev pub written_records : Parts → List Test → List (List Text)
written_records parts tests = header_record parts ∷ flat_map (test_records parts) tests

-- records as `csv` writes them by default
abbrev pub text_of : List (List Text) → Text
text_of records = flat_map (row_text default_writer) records

abbrev pub suite_text : Parts → List Test → Text
suite_text parts tests = text_of (written_records parts tests)

-- ---- what is read again

-- a suite's text is read again as its tests, within the limits
abbrev pub IsReadAgain : Type 0
IsReadAgain = (parts : Parts) (tests : List Test) → IsValid parts → AreOfSuite parts tests
    → suite_of parts (suite_text parts tests) ≡ Ok tests
