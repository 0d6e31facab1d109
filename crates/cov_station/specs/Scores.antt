-- What `score` prints over a network: the tests, the score of each criterion, and the obligations
-- that no test covers; as text, or as JSON.
use Rattle.std.specs.Prelude.{◌≡◌, ℕ, suc, ◌==◌, if◌then◌else◌, Bool, not, List, [], ◌∷◌, ◌++◌}
use Rattle.std.specs.Prelude.{length, filter, map, codes, decimal}
use Rattle.std.specs.List.{flat_map, range_with_len, zip}
use Rattle.cov_report.specs.declared.json.TestLine.{TestLine}
use Rattle.cov_report.specs.Duties.{duty_at}
use Rattle.cov_report.specs.Json.{json_line}
use Rattle.cov_report.specs.Scores.{score_lines, scored}
use Rattle.dep_paths.specs.declared.path.Score.{Score}
use Rattle.dep_paths.specs.Duties.{Planned}
use Rattle.op_network.specs.declared.edge.Edge.{Edge}
use Rattle.op_network.specs.declared.edge.Parts.{Parts}
use Rattle.op_network.specs.declared.test.Test.{Test}
use Rattle.score_table.specs.Coverage.{is_covered_at, score_of}
use Rattle.score_table.specs.Runs.{AreTestRuns, TestRun}

-- ---- the tests

abbrev pub failure_at : ℕ → ℕ → List ℕ
failure_at instants kept =
    if kept == instants then [] else codes " assertion fails at " ++ decimal kept

-- a number behind a space
abbrev pub spaced : ℕ → List ℕ
spaced n = 32 ∷ decimal n

-- A test's name, how many instants it has, how many of them count, and where not all do the
-- first that doesn't.
abbrev pub test_line : Test → ℕ → List ℕ
test_line test kept = codes "test " ++ (test.name ++ (spaced test.instants
    ++ (spaced kept ++ (failure_at test.instants kept ++ 10 ∷ []))))

abbrev pub test_lines : List Test → List TestRun → List ℕ
test_lines tests runs =
    flat_map (λ (p : Test × TestRun). test_line p.0 p.1.kept) (zip tests runs)

-- ---- the scores

-- the score of each criterion, in order
abbrev pub scores_of : Planned → List TestRun → List Score
scores_of plan runs = map (score_of plan runs) scored

-- ---- the obligations

-- the line of the obligation at a place, by its number from 1
abbrev pub missing_line : List Edge → Planned → ℕ → List ℕ
missing_line edges plan o =
    codes "missing " ++ (decimal (suc o) ++ 32 ∷ (duty_at edges plan o ++ 10 ∷ []))

-- the places of the obligations that no run covers, in order
abbrev pub uncovered : Planned → List TestRun → List ℕ
uncovered plan runs =
    filter (λ o. not (is_covered_at runs o)) (range_with_len 0 (length plan.duties))

abbrev pub missing_lines : List Edge → Planned → List TestRun → List ℕ
missing_lines edges plan runs = flat_map (missing_line edges plan) (uncovered plan runs)

-- ---- the whole text

abbrev pub score_text : List Edge → Planned → List Test → List TestRun → List ℕ
score_text edges plan tests runs = test_lines tests runs
    ++ (score_lines (scores_of plan runs) ++ missing_lines edges plan runs)

-- ---- as JSON

-- a test's name, how many instants it has, and how many of them count
abbrev pub row_of_test : Test × TestRun → TestLine
row_of_test p = record { name = p.0.name; instants = p.0.instants; kept = p.1.kept }

abbrev pub rows_of_tests : List Test → List TestRun → List TestLine
rows_of_tests tests runs = map row_of_test (zip tests runs)

-- the numbers of the obligations that no run covers, from 1
abbrev pub missing_numbers : Planned → List TestRun → List ℕ
missing_numbers plan runs = map suc (uncovered plan runs)

abbrev pub score_json : Planned → List Test → List TestRun → List ℕ
score_json plan tests runs =
    json_line (rows_of_tests tests runs) (scores_of plan runs) (missing_numbers plan runs)

-- ---- either

abbrev pub report_text : Bool → List Edge → Planned → List Test → List TestRun → List ℕ
report_text json edges plan tests runs =
    if json then score_json plan tests runs else score_text edges plan tests runs

-- The bytes are the text of these tests' score over the plan, as JSON or not, by the runs of the
-- network over the tests.
pub record NetworkScore (parts : Parts) (plan : Planned) (tests : List Test) (json : Bool)
    (text : List ℕ) : Type 0 where
  pub runs : List TestRun
  pub ran : AreTestRuns parts plan tests runs
  pub printed : text ≡ report_text json parts.edges plan tests runs
