use Rattle.std.proofs.Common.{◌≡◌, map, take}
use Rattle.std.specs.List.{zip}
use Rattle.dep_paths.specs.declared.path.Criterion.{Criterion}
use Rattle.dep_paths.specs.declared.path.Score.{Score}
use Rattle.serde_json.specs.View.{view}
use Rattle.cov_report.specs.Json.{score_data}
use Rattle.cov_report.specs.Scores.{scored}
use Rattle.cov_report.proofs.json.scores_value.Given as goal

abbrev pub invariant-loop-i : goal.invariant-loop-i
invariant-loop-i l =
    map view l.values.items ≡ map (λ (p : Criterion × Score). score_data p.0 p.1) (take l.i (zip scored l.scores))
