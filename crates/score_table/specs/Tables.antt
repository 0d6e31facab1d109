-- Tables of tests, and what an addition or a withdrawal makes of them.
use Rattle.std.specs.Prelude.{ℕ, ◌+◌, Bool, not, nat_le, nat_lt, if◌then◌else◌, List, [], ◌∷◌, ◌++◌, length, Option, Some, None, filter, sum_by}
use Rattle.std.specs.List.{list_any}
use Rattle.std.specs.Str.{bytes_eq}
use Rattle.dep_paths.specs.Duties.{Planned}
use Rattle.lus_causality.specs.Ordered.{Causal}
use Rattle.op_network.specs.declared.test.Test.{Test}
use Rattle.score_table.specs.declared.fault.AddCause.{AddCause}
use Rattle.score_table.specs.declared.fault.AddCause.TheVariants.{AlreadyKept, Full, Instants}
use Rattle.score_table.specs.declared.limits.TheConstants.{MOST_INSTANTS, MOST_TESTS}
use Rattle.score_table.specs.Runs.{AreTestRuns, TestRun}

-- a network in order, a plan of it, and the tests that are kept
pub record Tabled : Type 0 where
  pub network : Causal
  pub plan : Planned
  pub tests : List Test

-- Something holds of the runs of the tests that are kept. A table has them, and no others.
abbrev pub OfRuns : Tabled → (List TestRun → Type 0) → Type 0
OfRuns table P = (runs : List TestRun)
    → AreTestRuns table.network.network table.plan table.tests runs → P runs

abbrev pub has_name : List ℕ → Test → Bool
has_name name test = bytes_eq name test.name

-- one of the tests has the name
abbrev pub is_kept : List Test → List ℕ → Bool
is_kept tests name = list_any (has_name name) tests

-- the instants of all tests
abbrev pub instants_of : List Test → ℕ
instants_of tests = sum_by (λ (test : Test). test.instants) tests

-- Why a test can't be kept beside these, if so. The first reason counts.
abbrev pub first_refusal : List Test → Test → Option AddCause
first_refusal tests test =
    if is_kept tests test.name then Some AlreadyKept
    else if nat_le MOST_TESTS (length tests) then Some Full
    else if nat_lt MOST_INSTANTS (instants_of tests + test.instants) then Some Instants
    else None

-- the test goes last
abbrev pub with_test : Tabled → Test → Tabled
with_test table test = record {
  network = table.network;
  plan = table.plan;
  tests = table.tests ++ test ∷ [];
}

-- the test of a name is taken out, and the others close up
abbrev pub without : Tabled → List ℕ → Tabled
without table name = record {
  network = table.network;
  plan = table.plan;
  tests = filter (λ test. not (has_name name test)) table.tests;
}
