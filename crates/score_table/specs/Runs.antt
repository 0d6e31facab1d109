-- Runs of tests over a network, and what they cover.
use Rattle.std.specs.Prelude.{◌↔◌, ℕ, Bool, IsTrue, List, length}
use Rattle.std.specs.List.{AllZip}
use Rattle.dep_paths.specs.declared.path.Obligation.{Obligation}
use Rattle.dep_paths.specs.Activation.{Frames}
use Rattle.dep_paths.specs.Coverage.{Covers, KeptRun}
use Rattle.dep_paths.specs.Duties.{Planned}
use Rattle.op_network.specs.declared.edge.Parts.{Parts}
use Rattle.op_network.specs.declared.test.Test.{Test}
use Rattle.op_network.specs.declared.value.Value.{Value}
use Rattle.op_network.specs.Admissible.{IsKeptOf}
use Rattle.op_network.specs.Run.{IsRun, rows}

-- the inputs of a test, a row for each instant
abbrev pub test_rows : Parts → Test → List (List Value)
test_rows parts test = rows (length parts.inputs) test.instants test.values

-- The run of a test: its frames, how many of its instants count, and of each obligation of a plan,
-- in order, whether it covers it.
pub record TestRun : Type 0 where
  pub frames : Frames
  pub kept : ℕ
  pub covered : List Bool

abbrev pub kept_run : TestRun → KeptRun
kept_run run = record { frames = run.frames; kept = run.kept }

-- whether the run covers the obligation
abbrev pub IsMark : Parts → Planned → KeptRun → Obligation → Bool → Type 0
IsMark net plan run duty mark = IsTrue mark ↔ Covers net plan run duty

-- of each obligation of the plan, whether the run covers it
abbrev pub AreMarks : Parts → Planned → KeptRun → List Bool → Type 0
AreMarks net plan run marks = AllZip (IsMark net plan run) plan.duties marks

-- The frames are the run over the test's inputs. Of the instants those count that stand before the
-- first at which an assertion fails, and the marks say which obligations are met at one of these.
pub record IsTestRun (parts : Parts) (plan : Planned) (test : Test) (run : TestRun) : Type 0 where
  pub ran : IsRun parts.width parts.edges (test_rows parts test) run.frames
  pub kept : IsKeptOf parts test run.kept
  pub marks : AreMarks parts plan (kept_run run) run.covered

-- the runs of these tests, one for each
abbrev pub AreTestRuns : Parts → Planned → List Test → List TestRun → Type 0
AreTestRuns parts plan tests runs = AllZip (IsTestRun parts plan) tests runs
