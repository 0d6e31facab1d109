-- What runs of tests cover.
use Rattle.std.specs.Prelude.{◌≡◌, ◌&&◌, ℕ, Bool, true, false, List, length, map, Option, count_by, position, slice_index_or, zip}
use Rattle.std.specs.List.{list_any, range_with_len}
use Rattle.dep_paths.specs.declared.path.Criterion.{Criterion}
use Rattle.dep_paths.specs.declared.path.Criterion.TheVariants.{Bc, Ecc, Mcc, Omcdc}
use Rattle.dep_paths.specs.declared.path.Obligation.{Obligation}
use Rattle.dep_paths.specs.declared.path.Score.{Score}
use Rattle.dep_paths.specs.Criteria.{criterion_of}
use Rattle.dep_paths.specs.Duties.{Planned}
use Rattle.score_table.specs.Runs.{TestRun}

-- a run covers the obligation at a place of a plan; none covers one that the plan lacks
abbrev pub covers_at : ℕ → TestRun → Bool
covers_at o run = slice_index_or run.covered o false

-- some run does
abbrev pub is_covered_at : List TestRun → ℕ → Bool
is_covered_at runs o = list_any (covers_at o) runs

-- the place of the first run that covers the obligation at a place of a plan
abbrev pub first_covering : List TestRun → ℕ → Option ℕ
first_covering runs o = position (covers_at o) runs

-- of each obligation of a plan, whether some run covers it
abbrev pub marks_of : Planned → List TestRun → List Bool
marks_of plan runs = map (is_covered_at runs) (range_with_len 0 (length plan.duties))

abbrev pub is_same_criterion : Criterion → Criterion → Bool
is_same_criterion Bc Bc = true
is_same_criterion Ecc Ecc = true
is_same_criterion Mcc Mcc = true
is_same_criterion Omcdc Omcdc = true
is_same_criterion _ _ = false

-- an obligation is of a criterion
abbrev pub is_of : Criterion → Obligation → Bool
is_of criterion duty = is_same_criterion criterion (criterion_of duty)

-- an obligation with its mark is one of a criterion that is covered
abbrev pub is_covered_of : Criterion → Obligation × Bool → Bool
is_covered_of criterion marked = is_of criterion marked.0 && marked.1

-- how many of a criterion's obligations some run covers, and how many there are
abbrev pub score_of : Planned → List TestRun → Criterion → Score
score_of plan runs criterion = record {
  covered = count_by (is_covered_of criterion) (zip plan.duties (marks_of plan runs));
  total = count_by (is_of criterion) plan.duties;
}

-- all obligations are covered
abbrev pub IsFullScore : Score → Type 0
IsFullScore score = score.covered ≡ score.total
