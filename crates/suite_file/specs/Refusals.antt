-- What a suite's text is refused for: the first record at fault, with the field and the kind.
use Rattle.std.specs.Prelude.{◌≡◌, ◌≢◌, ◌<◌, ◌⊎◌, ℕ, suc, ◌+◌, true, false, List, [], ◌∷◌, ◌++◌, codes, length, map, Option, Some, None, Err, slice_get, All, AllPairs}
use Rattle.std.specs.List.{AllZip, Contains}
use Rattle.op_network.specs.Valid.{IsValid}
use Rattle.op_network.specs.declared.edge.Parts.{Parts}
use Rattle.op_network.specs.declared.test.Test.{Test}
use Rattle.op_network.specs.declared.value.Value.{Value}
use Rattle.suite_file.specs.declared.fault.SuiteFault.{SuiteFault}
use Rattle.suite_file.specs.declared.fault.SuiteFault.TheVariants as fault
use Rattle.suite_file.specs.declared.fault.SuiteKind.{SuiteKind}
use Rattle.suite_file.specs.declared.fault.SuiteKind.TheVariants as kind
use Rattle.suite_file.specs.declared.limits.TheConstants.{MOST_TESTS, MOST_INSTANTS}
use Rattle.suite_file.specs.Meaning.{AreColumns, IsInstant, all_instants}
use Rattle.suite_file.specs.Records.{Text, suite_records}
use Rattle.suite_file.specs.Suites.{AreOfSuite, input_names, is_name, suite_of, type_named}
use Rattle.suite_file.specs.Values.{value_of}

-- a name is none of these
abbrev pub Lacks : List Text → Text → Type 0
Lacks names name = Contains names name → ⊥

-- ---- the header

-- inputs, each once at most
pub record AreInputs (parts : Parts) (columns : List Text) : Type 0 where
  pub known : All (λ name. Contains (input_names parts) name) columns
  pub once : AllPairs (λ a b. a ≢ b) columns

-- a column of a header that begins with `test`; the columns before it are inputs, each once
pub record IsColumn (parts : Parts) (header before : List Text) (name : Text) : Type 0 where
  pub later : List Text
  pub all : header ≡ codes "test" ∷ (before ++ name ∷ later)
  pub inputs : AreInputs parts before

-- what is wrong with a header, in a column behind `test`, or at 0
pub data HeaderFault (parts : Parts) (header : List Text) : ℕ → SuiteKind → Type 0 where
  no_test : slice_get header 0 ≢ Some (codes "test")
      → HeaderFault parts header 0 kind.NoTestColumn
  unknown : (before : List Text) (name : Text) → IsColumn parts header before name
      → Lacks (input_names parts) name
      → HeaderFault parts header (suc (length before)) kind.UnknownColumn
  repeated : (before : List Text) (name : Text) → IsColumn parts header before name
      → Contains (input_names parts) name → Contains before name
      → HeaderFault parts header (suc (length before)) kind.RepeatedColumn
  missing : (columns : List Text) (name : Text) → header ≡ codes "test" ∷ columns
      → AreInputs parts columns → Contains (input_names parts) name → Lacks columns name
      → HeaderFault parts header 0 kind.MissingColumn

-- ---- a later record

abbrev pub test_names : List Test → List Text
test_names tests = map (λ (test : Test). test.name) tests

-- of the tests so far, that of the name isn't the last
pub record HasEnded (tests : List Test) (name : Text) : Type 0 where
  pub ended : List Test
  pub last : Test
  pub all : tests ≡ ended ++ last ∷ []
  pub among : Contains (test_names ended) name

-- a record as wide as the header, with its first field
pub record IsWide (columns fields : List Text) (name : Text) : Type 0 where
  pub width : length fields ≡ length columns + 1
  pub first : slice_get fields 0 ≡ Some name

-- a record whose name is one, that of the last test or a new one
pub record IsNamed (columns : List Text) (tests : List Test) (fields : List Text) (name : Text)
    : Type 0 where
  pub wide : IsWide columns fields name
  pub is : is_name name ≡ true
  pub not_ended : HasEnded tests name → ⊥

-- what the field in a column, behind so many others, names as a value of the column's input
pub record Reads (parts : Parts) (columns fields : List Text) (k : ℕ) (value : Option Value)
    : Type 0 where
  pub column : Text
  pub field : Text
  pub named : slice_get columns k ≡ Some column
  pub there : slice_get fields (suc k) ≡ Some field
  pub read : value_of parts (type_named parts column) field ≡ value

-- the fields in the first so many columns name values
abbrev pub AreValues : Parts → List Text → List Text → ℕ → Type 0
AreValues parts columns fields n =
    (k : ℕ) → k < n → (value : Value) × Reads parts columns fields k (Some value)

-- what is wrong with a record behind those of these tests, in a column behind the name, or at 0
pub data RecordFault (parts : Parts) (columns : List Text) (tests : List Test) (fields : List Text)
    : ℕ → SuiteKind → Type 0 where
  wrong_width : length fields ≢ length columns + 1
      → RecordFault parts columns tests fields 0 kind.Width
  bad_name : (name : Text) → IsWide columns fields name → is_name name ≡ false
      → RecordFault parts columns tests fields 0 kind.BadName
  split_test : (name : Text) → IsWide columns fields name → is_name name ≡ true
      → HasEnded tests name → RecordFault parts columns tests fields 0 kind.SplitTest
  bad_value : (name : Text) (k : ℕ) → IsNamed columns tests fields name
      → AreValues parts columns fields k → Reads parts columns fields k None
      → RecordFault parts columns tests fields (suc k) kind.BadValue

-- a record without a fault
pub record IsSound (parts : Parts) (columns : List Text) (tests : List Test) (fields : List Text)
    (name : Text) : Type 0 where
  pub named : IsNamed columns tests fields name
  pub values : AreValues parts columns fields (length columns)

-- its test would be one too many
pub record IsTestTooMany (tests : List Test) (name : Text) : Type 0 where
  pub new : Lacks (test_names tests) name
  pub full : length tests ≡ MOST_TESTS

-- ---- the records of a text

-- The record of this number stands behind a header and records that hold the instants of tests.
pub record StandsAt (parts : Parts) (records : List (List Text)) (row : ℕ) (columns : List Text)
    (tests : List Test) (fields : List Text) : Type 0 where
  pub before : List (List Text)
  pub later : List (List Text)
  pub all : records ≡ (codes "test" ∷ columns) ∷ (before ++ fields ∷ later)
  pub number : row ≡ suc (length before)
  pub inputs : AreColumns parts columns
  pub suite : AreOfSuite parts tests
  pub each : AllZip (IsInstant parts columns) (all_instants parts tests) before

-- For what records are refused: for want of any, for the header, for a record with a fault, for one
-- that begins a test too many, or for one that is an instant too many.
pub data IsRefusal (parts : Parts) (records : List (List Text)) : SuiteFault → Type 0 where
  no_header : records ≡ [] → IsRefusal parts records (fault.Bad 0 0 kind.NoHeader)
  bad_header : (first : List Text) (later : List (List Text)) (c : ℕ) (k : SuiteKind)
      → records ≡ first ∷ later → HeaderFault parts first c k
      → IsRefusal parts records (fault.Bad 0 c k)
  bad_record : (row : ℕ) (columns : List Text) (tests : List Test) (fields : List Text) (c : ℕ)
      (k : SuiteKind) → StandsAt parts records row columns tests fields
      → RecordFault parts columns tests fields c k → IsRefusal parts records (fault.Bad row c k)
  too_many_tests : (row : ℕ) (columns : List Text) (tests : List Test) (fields : List Text)
      (name : Text) → StandsAt parts records row columns tests fields
      → IsSound parts columns tests fields name → IsTestTooMany tests name
      → IsRefusal parts records fault.Tests
  too_many_instants : (columns : List Text) (tests : List Test) (fields : List Text) (name : Text)
      → StandsAt parts records (suc MOST_INSTANTS) columns tests fields
      → IsSound parts columns tests fields name → (IsTestTooMany tests name → ⊥)
      → IsRefusal parts records fault.Instants

-- a reader refuses records, or memory is short
abbrev pub MayRefuse : Parts → List (List Text) → SuiteFault → Type 0
MayRefuse parts records e = (e ≡ fault.Memory) ⊎ IsRefusal parts records e

-- a text whose records have a first fault is refused for it
abbrev pub IsRefused : Type 0
IsRefused = (parts : Parts) (bytes : Text) (e : SuiteFault) → IsValid parts
    → IsRefusal parts (suite_records bytes) e → suite_of parts bytes ≡ Err e
