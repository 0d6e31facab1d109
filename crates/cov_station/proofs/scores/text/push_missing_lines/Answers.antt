use Rattle.cov_station.proofs.TableTexts.{missing_more}
use Rattle.cov_station.proofs.scores.text.push_missing_lines.Goals as goal

pub loop-o-preserved : goal.loop-o-preserved
loop-o-preserved c =
    missing_more c.args.table.now c.loop-o.o c.args.text.now c.loop-o.text c.push_if_missing.new.text c.in_ok-push_if_missing.ensures c.loop-o.invariant
