use Rattle.std.proofs.Common.{◌∙◌}
use Rattle.cov_station.proofs.TableReports.{whole_report}
use Rattle.cov_station.proofs.scores.report.json_of.Goals as goal

pub returns : goal.returns
returns c =
    whole_report c.args.table.now c.tests.ensures.runs.0 c.as_slice.result.now c.scores_in-scores.result c.as_slice-2.result.now c.new-text.result c.score_json.new.out c.tests.ensures.runs.1
    c.new-text.ensures (λ runs ran. c.as_slice.ensures ∙ c.in_ok-rows.ensures.rows runs ran) c.scores_in-scores.ensures.scores (λ runs ran. c.as_slice-2.ensures ∙ c.in_ok-missing.ensures runs ran) c.in_ok-score_json.ensures.ok
