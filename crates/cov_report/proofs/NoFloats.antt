-- The values of a report have no float.
use Rattle.std.proofs.Common.{◌≡◌, ℕ, List, [], ◌∷◌, false, map, refl}
use Rattle.std.specs.List.{zip}
use Rattle.dep_paths.specs.declared.path.Criterion.{Criterion}
use Rattle.dep_paths.specs.declared.path.Score.{Score}
use Rattle.serde_json.specs.Data.{Data}
use Rattle.serde_json.specs.View.{items_of}
use Rattle.serde_json.specs.Written.{has_float, items_have_float}
use Rattle.cov_report.specs.declared.json.TestLine.{TestLine}
use Rattle.cov_report.specs.Json.{number_data, report_data, score_data, test_data}
use Rattle.cov_report.specs.Scores.{scored}

no_float_in : {X : Type 0} (data_of : X → Data) → ((x : X) → has_float (data_of x) ≡ false) → (xs : List X) → items_have_float (items_of (map data_of xs)) ≡ false
no_float_in data_of none [] = refl
no_float_in data_of none (x ∷ xs) = rw (none x, no_float_in data_of none xs) refl

pub no_float : (tests : List TestLine) (scores : List Score) (missing : List ℕ) → has_float (report_data tests scores missing) ≡ false
no_float tests scores missing =
    rw (
      no_float_in number_data (λ n. refl) missing,
      no_float_in (λ (p : Criterion × Score). score_data p.0 p.1) (λ p. refl) (zip scored scores),
      no_float_in test_data (λ test. refl) tests,
    ) refl
