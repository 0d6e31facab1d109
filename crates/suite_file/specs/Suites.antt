-- What a suite's text holds, or for what it is refused: the first fault, record by record.
use Rattle.std.specs.Prelude.{◌≡◌, ◌≢◌, ◌≤◌, ◌⊎◌, ℕ, suc, ◌+◌, Bool, true, false, not, ◌&&◌, nat_le, nat_lt, cond, List, [], ◌∷◌, ◌++◌, codes, length, map, drop, Option, Some, None, is_some, Result, Ok, Err, slice_get, get_or, All, AllPairs}
use Rattle.std.specs.List.{list_all, list_any, sum_by}
use Rattle.std.specs.Option.{option_map_or}
use Rattle.std.specs.Prelude.{option_and_then, nat_eq}
use Rattle.std.specs.Str.{bytes_eq}
use Rattle.op_network.specs.declared.edge.EdgeId.{EdgeId}
use Rattle.op_network.specs.declared.edge.Edge.{Edge}
use Rattle.op_network.specs.declared.edge.Parts.{Parts}
use Rattle.op_network.specs.declared.test.Test.{Test}
use Rattle.op_network.specs.declared.value.Ty.{Ty}
use Rattle.op_network.specs.declared.value.Ty.TheVariants as type
use Rattle.op_network.specs.declared.value.Value.{Value}
use Rattle.op_network.specs.declared.value.Value.TheVariants.{Truth}
use Rattle.op_network.specs.Valid.{FitsTest}
use Rattle.suite_file.specs.declared.fault.SuiteFault.{SuiteFault}
use Rattle.suite_file.specs.declared.fault.SuiteFault.TheVariants as fault
use Rattle.suite_file.specs.declared.fault.SuiteKind.{SuiteKind}
use Rattle.suite_file.specs.declared.fault.SuiteKind.TheVariants as kind
use Rattle.suite_file.specs.declared.header.Layout.{Layout}
use Rattle.suite_file.specs.declared.limits.TheConstants.{LEAST_PRINTABLE, MOST_PRINTABLE, MOST_NAME, MOST_TESTS, MOST_INSTANTS}
use Rattle.suite_file.specs.Records.{Text, suite_records}
use Rattle.suite_file.specs.Tables.{Numbering, number_of}
use Rattle.suite_file.specs.Values.{value_of}

-- ---- results

-- the next step, unless one before it failed
abbrev pub and_then : {A B : Type 0}
    → (A → Result B SuiteFault) → Result A SuiteFault → Result B SuiteFault
and_then next (Ok a) = next a
and_then next (Err e) = Err e

-- this holds, or it is at fault
abbrev pub required : {A : Type 0} → Bool → SuiteFault → Result A SuiteFault → Result A SuiteFault
required holds e next = cond holds next (Err e)

-- this doesn't hold, or it is at fault
abbrev pub excluded : {A : Type 0} → Bool → SuiteFault → Result A SuiteFault → Result A SuiteFault
excluded holds e next = cond holds (Err e) next

-- a fault is that of an outcome, or want of memory
abbrev pub IsFaultOf : {A : Type 0} → Result A SuiteFault → SuiteFault → Type 0
IsFaultOf outcome e = (e ≡ fault.Memory) ⊎ (outcome ≡ Err e)

-- ---- the header

abbrev pub name_of : List Edge → EdgeId → Text
name_of edges e = option_map_or (λ (edge : Edge). edge.name) (slice_get edges e.0) []

abbrev pub type_at : List Edge → ℕ → Ty
type_at edges e = option_map_or (λ (edge : Edge). edge.ty) (slice_get edges e) type.Truth

abbrev pub input_names : Parts → List Text
input_names parts = map (name_of parts.edges) parts.inputs

-- the inputs' names with their edges
abbrev pub inputs_of : Parts → Numbering
inputs_of parts = map (λ (e : EdgeId). (name_of parts.edges e, e.0)) parts.inputs

-- the type of the input of that name
abbrev pub type_named : Parts → Text → Ty
type_named parts name =
    option_map_or (type_at parts.edges) (number_of (inputs_of parts) name) type.Truth

-- a column of a header names an input, which no column before it names
abbrev pub column_fault : Numbering → Numbering → Text → Option SuiteKind
column_fault inputs before name =
    cond (is_some (number_of inputs name))
    (cond (is_some (number_of before name)) (Some kind.RepeatedColumn) None)
    (Some kind.UnknownColumn)

-- one more column, numbered by its place behind `test`
abbrev pub with_column : Numbering → Text → Numbering
with_column before name = before ++ (name, length before) ∷ []

-- the columns from a place on, behind those before it, or the first at fault
abbrev pub columns_from : Numbering → Numbering → ℕ → List Text → Result Numbering SuiteFault
columns_from inputs before c [] = Ok before
columns_from inputs before c (name ∷ names) =
    option_map_or (λ k. Err (fault.Bad 0 c k)) (column_fault inputs before name)
    (columns_from inputs (with_column before name) (suc c) names)

-- the columns of a header behind its first field
abbrev pub columns_in : Parts → List Text → Result Numbering SuiteFault
columns_in parts header = columns_from (inputs_of parts) [] 1 (drop 1 header)

-- the column of each of these inputs behind those before them, if each has one
abbrev pub places_from : Numbering → List ℕ → List Text → Option (List ℕ)
places_from columns before [] = Some before
places_from columns before (name ∷ names) =
    option_and_then (λ place. places_from columns (before ++ place ∷ []) names)
    (number_of columns name)

-- the types of columns
abbrev pub types_of : Parts → Numbering → List Ty
types_of parts columns = map (λ column. type_named parts column.0) columns

-- the column of each input
abbrev pub places_in : Parts → Numbering → Result (List ℕ) SuiteFault
places_in parts columns =
    option_map_or (λ places. Ok places) (places_from columns [] (input_names parts))
    (Err (fault.Bad 0 0 kind.MissingColumn))

-- the layout that columns give, if each input has one
abbrev pub layout_under : Parts → Numbering → Result Layout SuiteFault
layout_under parts columns =
    and_then (λ places. Ok (record { types = types_of parts columns; places = places }))
    (places_in parts columns)

-- the first field is `test`
abbrev pub is_test : List Text → Bool
is_test [] = false
is_test (first ∷ names) = bytes_eq first (codes "test")

-- The layout that a header gives, or its first fault: its first field is `test`, and the others are
-- the inputs in any order.
abbrev pub layout_of : Parts → List Text → Result Layout SuiteFault
layout_of parts header =
    required (is_test header) (fault.Bad 0 0 kind.NoTestColumn)
    (and_then (layout_under parts) (columns_in parts header))

-- ---- the records of instants

-- The values of fields from a place on, behind those before them, or the place of the first that is
-- no value of its type.
abbrev pub cells_from : Parts → List Value → ℕ → List Ty → List Text → Result (List Value) ℕ
cells_from parts before c [] fields = Ok before
cells_from parts before c (ty ∷ types) [] = Err c
cells_from parts before c (ty ∷ types) (field ∷ fields) =
    option_map_or (λ v. cells_from parts (before ++ v ∷ []) (suc c) types fields)
    (value_of parts ty field) (Err c)

-- the values of the inputs in their order
abbrev pub arranged : List ℕ → List Value → List Value
arranged places cells = map (λ place. get_or cells place (Truth false)) places

abbrev pub is_printable : ℕ → Bool
is_printable b = nat_le LEAST_PRINTABLE b && nat_le b MOST_PRINTABLE

-- 1 to `MOST_NAME` printable bytes
abbrev pub is_name : Text → Bool
is_name name =
    (nat_le 1 (length name) && nat_le (length name) MOST_NAME) && list_all is_printable name

-- the tests that ended, and the one at hand
pub record SoFar : Type 0 where
  pub ended : List Test
  pub current : Option Test

abbrev pub so_far : List Test → Option Test → SoFar
so_far ended current = record { ended = ended; current = current }

abbrev pub all_tests : List Test → Option Test → List Test
all_tests ended None = ended
all_tests ended (Some test) = ended ++ test ∷ []

abbrev pub has_ended : List Test → Text → Bool
has_ended ended name = list_any (λ (test : Test). bytes_eq name test.name) ended

abbrev pub is_current : Option Test → Text → Bool
is_current None name = false
is_current (Some test) name = bytes_eq test.name name

-- a test of one more instant
abbrev pub longer : Test → List Value → Test
longer test row = record test { instants = test.instants + 1; values = test.values ++ row }

-- a test of one instant
abbrev pub first_instant : Text → List Value → Test
first_instant name row = record { name = name; instants = 1; values = row }

-- an instant of a test is behind the one before it, or the first of a new test
abbrev pub with_instant : List Test → Option Test → Text → List Value → SoFar
with_instant ended None name row = so_far ended (Some (first_instant name row))
with_instant ended (Some test) name row =
    cond (bytes_eq test.name name)
    (so_far ended (Some (longer test row)))
    (so_far (ended ++ test ∷ []) (Some (first_instant name row)))

-- a new test would be one too many
abbrev pub is_full : List Test → Option Test → Text → Bool
is_full ended current name =
    not (is_current current name) && nat_le MOST_TESTS (length (all_tests ended current))

-- The name of a record's test: the record is as wide as the header, the name is one, and its test
-- hasn't ended.
abbrev pub name_in : Layout → ℕ → List Test → List Text → Result Text SuiteFault
name_in layout row ended [] = Err (fault.Bad row 0 kind.Width)
name_in layout row ended (name ∷ fields) =
    required (nat_eq (length (name ∷ fields)) (length layout.types + 1))
    (fault.Bad row 0 kind.Width)
    (required (is_name name) (fault.Bad row 0 kind.BadName)
    (excluded (has_ended ended name) (fault.Bad row 0 kind.SplitTest) (Ok name)))

abbrev pub cells_or_fault : ℕ → Result (List Value) ℕ → Result (List Value) SuiteFault
cells_or_fault row (Ok cells) = Ok cells
cells_or_fault row (Err c) = Err (fault.Bad row c kind.BadValue)

-- the values of the fields behind the name
abbrev pub cells_in : Parts → List Ty → ℕ → List Text → Result (List Value) SuiteFault
cells_in parts types row fields = cells_or_fault row (cells_from parts [] 1 types (drop 1 fields))

-- the tests after an instant, within the limits
abbrev pub with_cells : Layout → ℕ → SoFar → Text → List Value → Result SoFar SuiteFault
with_cells layout row before name cells =
    excluded (is_full before.ended before.current name) fault.Tests
    (excluded (nat_lt MOST_INSTANTS row) fault.Instants
    (Ok (with_instant before.ended before.current name (arranged layout.places cells))))

-- the tests after one more record, or its fault
abbrev pub with_record : Parts → Layout → ℕ → SoFar → List Text → Result SoFar SuiteFault
with_record parts layout row before fields =
    and_then
    (λ name. and_then (with_cells layout row before name) (cells_in parts layout.types row fields))
    (name_in layout row before.ended fields)

-- the tests of records from a number on, behind those before them, or the first fault
abbrev pub tests_from : Parts → Layout → ℕ → SoFar → List (List Text)
    → Result (List Test) SuiteFault
tests_from parts layout row before [] = Ok (all_tests before.ended before.current)
tests_from parts layout row before (fields ∷ records) =
    and_then (λ after. tests_from parts layout (suc row) after records)
    (with_record parts layout row before fields)

-- the tests of the records behind the header
abbrev pub tests_in : Parts → Layout → List (List Text) → Result (List Test) SuiteFault
tests_in parts layout records = tests_from parts layout 1 (so_far [] None) records

abbrev pub tests_of : Parts → List (List Text) → Result (List Test) SuiteFault
tests_of parts [] = Err (fault.Bad 0 0 kind.NoHeader)
tests_of parts (header ∷ records) =
    and_then (λ layout. tests_in parts layout records) (layout_of parts header)

-- the tests that the text holds, or for what it is refused
abbrev pub suite_of : Parts → Text → Result (List Test) SuiteFault
suite_of parts bytes = tests_of parts (suite_records bytes)

-- Tests as a suite may have them: each fits the network, their names are names and differ, and they
-- are within the limits.
pub record AreOfSuite (parts : Parts) (tests : List Test) : Type 0 where
  pub fit : All (FitsTest parts) tests
  pub named : All (λ (test : Test). is_name test.name ≡ true) tests
  pub apart : AllPairs (λ (a b : Test). a.name ≢ b.name) tests
  pub few : length tests ≤ MOST_TESTS
  pub short : sum_by (λ (test : Test). test.instants) tests ≤ MOST_INSTANTS
