-- How scores are printed.
use Rattle.std.specs.Prelude.{ℕ, ◌≤◌, List, [], ◌∷◌, ◌++◌, codes, decimal}
use Rattle.std.specs.List.{flat_map, zip}
use Rattle.cov_base.specs.Numbers.{percent}
use Rattle.dep_paths.specs.declared.path.Criterion.{Criterion}
use Rattle.dep_paths.specs.declared.path.Criterion.TheVariants as criterion
use Rattle.dep_paths.specs.declared.path.Score.{Score}

abbrev pub criterion_name : Criterion → List ℕ
criterion_name criterion.Bc = codes "BC"
criterion_name criterion.Ecc = codes "ECC"
criterion_name criterion.Mcc = codes "MCC"
criterion_name criterion.Omcdc = codes "OMCDC"

-- no more are covered than there are
abbrev pub IsWithin : Score → Type 0
IsWithin score = score.covered ≤ score.total

-- how many are covered, how many there are, and the percentage
abbrev pub share : Score → List ℕ
share score = decimal score.covered
    ++ 47 ∷ (decimal score.total ++ 32 ∷ percent score.covered score.total)

-- a criterion and its score
abbrev pub score_line : Criterion → Score → List ℕ
score_line criterion score = criterion_name criterion ++ 32 ∷ (share score ++ 10 ∷ [])

-- the criteria, in the order of their scores
abbrev pub scored : List Criterion
scored = criterion.Bc ∷ criterion.Ecc ∷ criterion.Mcc ∷ criterion.Omcdc ∷ []

-- a line for the score of each criterion
abbrev pub score_lines : List Score → List ℕ
score_lines scores =
    flat_map (λ (p : Criterion × Score). score_line p.0 p.1) (zip scored scores)
