-- Suites: the tests that a file holds for a network.
use Rattle.std.specs.Prelude.{◌≡◌, ℕ, List, Option, Result, Ok, Err}
use Rattle.cov_base.specs.Files.{Files}
use Rattle.op_network.specs.declared.edge.Parts.{Parts}
use Rattle.op_network.specs.declared.test.Test.{Test}
use Rattle.lus_types.specs.Names.{Name}
use Rattle.suite_file.specs.declared.fault.SuiteFault.TheVariants as fault
use Rattle.suite_file.specs.declared.fault.SuiteKind.{SuiteKind}
use Rattle.suite_file.specs.declared.limits.TheConstants.{MOST_TESTS, MOST_INSTANTS}
use Rattle.suite_file.specs.Suites.{suite_of}
use Rattle.cov_station.specs.declared.limits.TheConstants.{MOST_FILE_BYTES}
use Rattle.cov_station.specs.declared.refusal.Quantity.TheVariants.{Tests, Instants}
use Rattle.cov_station.specs.declared.refusal.Refusal.{Refusal}
use Rattle.cov_station.specs.declared.refusal.Refusal.TheVariants.{OverLimit, Suite}
use Rattle.cov_station.specs.Files.{Reads}
use Rattle.cov_station.specs.Steps.{Step, ◌>>=◌}

-- the bytes are a suite of the network
pub data HoldsTests (parts : Parts) (bytes : List ℕ) : Result (List Test) Refusal → Type 0 where
  holds_tests : {tests : List Test} → suite_of parts bytes ≡ Ok tests → HoldsTests parts bytes (Ok tests)
  is_no_suite : {record' column : ℕ} {kind : SuiteKind} → suite_of parts bytes ≡ Err (fault.Bad record' column kind)
      → HoldsTests parts bytes (Err (Suite kind record'))
  has_many_tests : suite_of parts bytes ≡ Err fault.Tests → HoldsTests parts bytes (Err (OverLimit Tests MOST_TESTS))
  has_many_instants : suite_of parts bytes ≡ Err fault.Instants → HoldsTests parts bytes (Err (OverLimit Instants MOST_INSTANTS))

-- the tests that a file holds
abbrev pub ReadsSuite : Option Files → Name → Parts → Step (List Test)
ReadsSuite files name parts = do
  bytes ← Reads files name MOST_FILE_BYTES
  HoldsTests parts bytes
