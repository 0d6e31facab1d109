use Rattle.cov_station.proofs.TableTexts.{whole_text}
use Rattle.cov_station.proofs.scores.text.text_of.Goals as goal

pub returns : goal.returns
returns c =
    whole_text c.args.table.now c.tests.ensures.runs.0 c.new-text.result c.push_test_lines.new.text c.push_score_lines.new.text c.push_missing_lines.new.text c.tests.ensures.runs.1
    c.new-text.ensures c.in_ok-push_test_lines.ensures c.in_ok-push_score_lines.ensures c.in_ok-push_missing_lines.ensures
