use Rattle.std.proofs.Common.{◌≡◌, ◌++◌, take}
use Rattle.std.specs.Io.{StartsWith}
use Rattle.std.specs.List.{flat_map, zip}
use Rattle.dep_paths.specs.declared.path.Criterion.{Criterion}
use Rattle.dep_paths.specs.declared.path.Score.{Score}
use Rattle.cov_report.specs.Scores.{score_line, scored}
use Rattle.cov_report.proofs.scores.push_score_lines.Given as goal

abbrev pub invariant-loop-i : goal.invariant-loop-i
invariant-loop-i l = record {
  so_far : l.text ≡ l.fn.text ++ flat_map (λ (p : Criterion × Score). score_line p.0 p.1) (take l.i (zip scored l.scores));
  kept : StartsWith l.text l.fn.text;
}
