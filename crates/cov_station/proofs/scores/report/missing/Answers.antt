use Rattle.cov_station.proofs.TableReports.{number_more}
use Rattle.cov_station.proofs.scores.report.missing.Goals as goal

pub loop-o-preserved : goal.loop-o-preserved
loop-o-preserved c =
    number_more c.args.table.now c.loop-o.o c.loop-o.numbers c.add_if_missing.new.numbers c.in_ok-add_if_missing.ensures c.loop-o.invariant
