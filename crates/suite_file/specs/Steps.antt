-- What the reader's own functions say of their steps; nothing else cites it.
use Rattle.std.specs.Prelude.{◌≡◌, ◌⊎◌, ℕ, true, false, List, Option, Some, None}
use Rattle.op_network.specs.declared.test.Test.{Test}
use Rattle.op_network.specs.declared.value.Value.{Value}
use Rattle.suite_file.specs.declared.fault.SuiteFault.{SuiteFault}
use Rattle.suite_file.specs.declared.fault.SuiteFault.TheVariants as fault
use Rattle.suite_file.specs.declared.fault.SuiteKind.{SuiteKind}
use Rattle.suite_file.specs.declared.progress.Progress.{Progress}
use Rattle.suite_file.specs.NameTables.{holds}
use Rattle.suite_file.specs.Records.{Text}
use Rattle.suite_file.specs.Suites.{SoFar, has_ended, is_current, so_far, with_instant}

-- a column of a header is at fault, or memory is short
abbrev pub IsColumnFault : Option SuiteKind → ℕ → SuiteFault → Type 0
IsColumnFault found c e =
    (e ≡ fault.Memory) ⊎ ((k : SuiteKind) × (e ≡ fault.Bad 0 c k) × (found ≡ Some k))

-- how many instants the test at hand has
abbrev pub instants_of : Option Test → ℕ
instants_of None = 0
instants_of (Some test) = test.instants

-- the reader keeps the names of the tests that ended, and the test at hand is none of them
pub record IsKept (progress : Progress) : Type 0 where
  pub knows : (name : Text) → has_ended progress.ended name ≡ holds progress.names name
  pub fresh : (name : Text) → is_current progress.current name ≡ true
      → has_ended progress.ended name ≡ false

-- the tests so far, as the reader keeps them
abbrev pub tests_so_far : Progress → SoFar
tests_so_far progress = so_far progress.ended progress.current

-- the tests so far after one more instant
abbrev pub after_instant : Progress → Text → List Value → SoFar
after_instant progress name row = with_instant progress.ended progress.current name row
