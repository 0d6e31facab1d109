-- A score as JSON.
use Rattle.std.specs.Prelude.{ℕ, ◌≤◌, List, [], ◌∷◌, ◌++◌, codes, map}
use Rattle.std.specs.List.{All, zip}
use Rattle.dep_paths.specs.declared.path.Criterion.{Criterion}
use Rattle.dep_paths.specs.declared.path.Score.{Score}
use Rattle.serde_json.specs.Data.{Data, number, unsigned, string, array, object, member, no_members}
use Rattle.serde_json.specs.View.{items_of}
use Rattle.serde_json.specs.Written.{compact_text}
use Rattle.cov_report.specs.declared.json.TestLine.{TestLine}
use Rattle.cov_report.specs.Scores.{criterion_name, scored}

-- each byte is printable and no blank
abbrev pub IsPrintable : List ℕ → Type 0
IsPrintable name = All (λ b. (0x21 ≤ b) × (b ≤ 0x7E)) name

-- the names of tests are printable
abbrev pub ArePrintable : List TestLine → Type 0
ArePrintable tests = All (λ (test : TestLine). IsPrintable test.name) tests

abbrev pub number_data : ℕ → Data
number_data n = number (unsigned n)

-- a criterion and its score
abbrev pub score_data : Criterion → Score → Data
score_data criterion score = object
    (member (codes "covered") (number_data score.covered)
    (member (codes "criterion") (string (criterion_name criterion))
    (member (codes "total") (number_data score.total) no_members)))

-- how many instants a test has, how many of them count, and its name
abbrev pub test_data : TestLine → Data
test_data test = object
    (member (codes "instants") (number_data test.instants)
    (member (codes "kept") (number_data test.kept)
    (member (codes "name") (string test.name) no_members)))

abbrev pub numbers_data : List ℕ → Data
numbers_data numbers = array (items_of (map number_data numbers))

abbrev pub scores_data : List Score → Data
scores_data scores = array
    (items_of (map (λ (p : Criterion × Score). score_data p.0 p.1) (zip scored scores)))

abbrev pub tests_data : List TestLine → Data
tests_data tests = array (items_of (map test_data tests))

-- the missing obligations by their printed numbers, the scores, and the tests
abbrev pub report_data : List TestLine → List Score → List ℕ → Data
report_data tests scores missing = object
    (member (codes "missing") (numbers_data missing)
    (member (codes "scores") (scores_data scores)
    (member (codes "tests") (tests_data tests) no_members)))

-- the line of JSON
abbrev pub json_line : List TestLine → List Score → List ℕ → List ℕ
json_line tests scores missing = compact_text (report_data tests scores missing) ++ 10 ∷ []
