-- The scores of a table: no more is covered than there is.
use Rattle.std.proofs.Common.{◌≡◌, ℕ, ◌+◌, ◌≤◌, Bool, true, false, ◌&&◌, cond, List, [], ◌∷◌, length, map, refl, sym, ap, subst, ◌∙◌, arith}
use Rattle.std.specs.Prelude.{All, count_by, zip}
use Rattle.std.proofs.lemmas.List.Elements.{All-cons, All-nil}
use Rattle.std.proofs.lemmas.List.Sums.{sum_by-cons}
use Rattle.cov_report.specs.Scores.{IsWithin}
use Rattle.dep_paths.specs.declared.path.Criterion.{Criterion}
use Rattle.dep_paths.specs.declared.path.Criterion.TheVariants as criterion
use Rattle.dep_paths.specs.declared.path.Score.{Score}
use Rattle.dep_paths.specs.Duties.{Planned}
use Rattle.score_table.specs.Coverage.{is_covered_of, is_of, marks_of, score_of}
use Rattle.score_table.specs.Runs.{AreTestRuns, TestRun}
use Rattle.cov_station.specs.Scores.{scores_of}
use Rattle.score_table.specs.Tables.{OfRuns, Tabled}

-- of some items with marks, those that pass a test and are marked are at most those that pass it
few_marked : {X : Type 0} (p : X → Bool) (xs : List X) (marks : List Bool) → count_by (λ (pair : X × Bool). p pair.0 && pair.1) (zip xs marks) ≤ count_by p xs
few_marked p [] marks = omega arith
few_marked p (x ∷ xs) [] = omega arith
few_marked {X} p (x ∷ xs) (b ∷ marks) =
    let both = sum_by-cons (λ (pair : X × Bool). cond (p pair.0 && pair.1) 1 0) (x, b) (zip xs marks) in
    let one = sum_by-cons (λ y. cond (p y) 1 0) x xs in
    omega (arith, both, one, at (p x) b, few_marked p xs marks)
  where
    at : (a b : Bool) → cond (a && b) 1 0 ≤ cond a 1 0
    at true true = omega arith
    at true false = omega arith
    at false b = omega arith

pub score_within : (plan : Planned) (runs : List TestRun) (c : Criterion) → IsWithin (score_of plan runs c)
score_within plan runs c = few_marked (is_of c) plan.duties (marks_of plan runs)

-- a score of the table's runs
one_within : (table : Tabled) (runs : List TestRun) (c : Criterion) (score : Score) → AreTestRuns table.network.network table.plan table.tests runs → OfRuns table (λ runs. score ≡ score_of table.plan runs c) → IsWithin score
one_within table runs c score ran is = subst IsWithin (sym (is runs ran)) (score_within table.plan runs c)

pub four_within : (table : Tabled) (runs : List TestRun) (p q r s : Score) → AreTestRuns table.network.network table.plan table.tests runs
    → OfRuns table (λ runs. p ≡ score_of table.plan runs criterion.Bc) → OfRuns table (λ runs. q ≡ score_of table.plan runs criterion.Ecc)
    → OfRuns table (λ runs. r ≡ score_of table.plan runs criterion.Mcc) → OfRuns table (λ runs. s ≡ score_of table.plan runs criterion.Omcdc)
    → All IsWithin (p ∷ q ∷ r ∷ s ∷ [])
four_within table runs p q r s ran a b c d =
    All-cons IsWithin p (q ∷ r ∷ s ∷ []) (one_within table runs criterion.Bc p ran a)
    (All-cons IsWithin q (r ∷ s ∷ []) (one_within table runs criterion.Ecc q ran b)
    (All-cons IsWithin r (s ∷ []) (one_within table runs criterion.Mcc r ran c)
    (All-cons IsWithin s [] (one_within table runs criterion.Omcdc s ran d) (All-nil IsWithin))))

pub four_are : (table : Tabled) (runs : List TestRun) (p q r s : Score) → AreTestRuns table.network.network table.plan table.tests runs
    → OfRuns table (λ runs. p ≡ score_of table.plan runs criterion.Bc) → OfRuns table (λ runs. q ≡ score_of table.plan runs criterion.Ecc)
    → OfRuns table (λ runs. r ≡ score_of table.plan runs criterion.Mcc) → OfRuns table (λ runs. s ≡ score_of table.plan runs criterion.Omcdc)
    → p ∷ q ∷ r ∷ s ∷ [] ≡ scores_of table.plan runs
four_are table runs p q r s ran a b c d =
    ap (λ (x : Score). x ∷ q ∷ r ∷ s ∷ []) (a runs ran)
    ∙ ap (λ (x : Score). score_of table.plan runs criterion.Bc ∷ x ∷ r ∷ s ∷ []) (b runs ran)
    ∙ ap (λ (x : Score). score_of table.plan runs criterion.Bc ∷ score_of table.plan runs criterion.Ecc ∷ x ∷ s ∷ []) (c runs ran)
    ∙ ap (λ (x : Score). score_of table.plan runs criterion.Bc ∷ score_of table.plan runs criterion.Ecc ∷ score_of table.plan runs criterion.Mcc ∷ x ∷ []) (d runs ran)
