-- What the table keeps of its tests, for its own functions.
use Rattle.std.specs.Prelude.{◌≡◌, ◌≢◌, ◌≤◌, ℕ, Bool, false, List, length, fold, replicate}
use Rattle.std.specs.List.{All, AllPairs, AllZip}
use Rattle.cov_base.specs.BitRow.{either}
use Rattle.dep_paths.specs.Duties.{IsPlanOf, Planned}
use Rattle.lus_causality.specs.Causality.{HasNoCycle}
use Rattle.op_network.specs.declared.edge.Parts.{Parts}
use Rattle.op_network.specs.declared.test.Test.{Test}
use Rattle.op_network.specs.Valid.{FitsTest, IsValid}
use Rattle.score_table.specs.declared.kept.Kept.{Kept}
use Rattle.score_table.specs.declared.row.TestRow.{TestRow}
use Rattle.score_table.specs.declared.watch.Watch.{Watch}
use Rattle.score_table.specs.declared.limits.TheConstants.{MOST_INSTANTS, MOST_TESTS}
use Rattle.score_table.specs.Names.{holds}
use Rattle.score_table.specs.Runs.{IsTestRun, TestRun}
use Rattle.score_table.specs.Tables.{instants_of, is_kept}
use Rattle.score_table.specs.Watching.{IsWatchFor}

-- what is kept of a run
abbrev pub row_of : TestRun → TestRow
row_of run = record { covered = run.covered; kept = run.kept }

-- the row is that of the test's run
pub record IsRowOf (parts : Parts) (plan : Planned) (test : Test) (row : TestRow) : Type 0 where
  pub run : TestRun
  pub ran : IsTestRun parts plan test run
  pub is : row ≡ row_of run

-- of so many obligations, whether some row has it
abbrev pub union_of : ℕ → List TestRow → List Bool
union_of count rows =
    fold (λ bits (row : TestRow). either bits row.covered) (replicate count false) rows

-- What is kept are tests with their rows, their names, what they cover together and the sum of
-- their instants.
pub record AreKept (parts : Parts) (plan : Planned) (kept : Kept) : Type 0 where
  pub fit : All (FitsTest parts) kept.tests.items
  pub rows : AllZip (IsRowOf parts plan) kept.tests.items kept.rows.items
  pub names : (name : List ℕ) → holds kept.names name ≡ is_kept kept.tests.items name
  pub apart : AllPairs (λ (a b : Test). a.name ≢ b.name) kept.tests.items
  pub covered : kept.covered ≡ union_of (length plan.duties) kept.rows.items
  pub instants : kept.instants ≡ instants_of kept.tests.items
  pub few : length kept.tests.items ≤ MOST_TESTS
  pub short : kept.instants ≤ MOST_INSTANTS

-- A plan of a network without a cycle, with the tests that are kept, and what watches their runs.
pub record IsTable (parts : Parts) (plan : Planned) (kept : Kept) (watch : Watch) : Type 0 where
  pub valid : IsValid parts
  pub acyclic : HasNoCycle parts.edges
  pub of : IsPlanOf parts plan
  pub tests : AreKept parts plan kept
  pub made : IsWatchFor parts plan watch
