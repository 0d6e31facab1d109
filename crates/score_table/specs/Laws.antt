-- What is true of runs and scores, as statements.
use Rattle.std.specs.Prelude.{◌≡◌, List}
use Rattle.dep_paths.specs.declared.path.Criterion.{Criterion}
use Rattle.dep_paths.specs.Duties.{IsPlanOf, Planned}
use Rattle.lus_causality.specs.Causality.{HasNoCycle}
use Rattle.op_network.specs.declared.edge.Parts.{Parts}
use Rattle.op_network.specs.declared.test.Test.{Test}
use Rattle.op_network.specs.Valid.{IsValid}
use Rattle.score_table.specs.Coverage.{IsFullScore, score_of}
use Rattle.score_table.specs.Runs.{AreTestRuns, TestRun}

-- Where all obligations of one criterion are covered, all of another one are, by the runs of any
-- tests and in each plan of a network.
abbrev pub FullScoreImplies : Criterion → Criterion → Type 0
FullScoreImplies one other = (parts : Parts) (plan : Planned) (tests : List Test)
    (runs : List TestRun) → IsPlanOf parts plan → AreTestRuns parts plan tests runs
    → IsFullScore (score_of plan runs one) → IsFullScore (score_of plan runs other)

-- without a cycle tests have no two lists of runs
abbrev pub OneListOfRuns : Type 0
OneListOfRuns = (parts : Parts) (plan : Planned) (tests : List Test) (a b : List TestRun)
    → IsValid parts → HasNoCycle parts.edges
    → AreTestRuns parts plan tests a → AreTestRuns parts plan tests b → a ≡ b
