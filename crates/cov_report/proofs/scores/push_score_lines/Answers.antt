use Rattle.cov_report.proofs.ScoreLines.{lines_more}
use Rattle.cov_report.proofs.Starts.{starts_then}
use Rattle.cov_report.proofs.scores.push_score_lines.Goals as goal

pub loop-i-preserved : goal.loop-i-preserved
loop-i-preserved c = record {
  so_far = lines_more c.args.scores.now c.loop-i.i _ _ c.args.text.now c.loop-i.text c.push_score_line.new.text c.loop-i-test.true c.told-scores c.in_ok-push_score_line.ensures.ok c.loop-i.invariant.so_far;
  kept = starts_then c.args.text.now c.loop-i.text c.push_score_line.new.text c.loop-i.invariant.kept c.in_ok-push_score_line.ensures.kept;
}
