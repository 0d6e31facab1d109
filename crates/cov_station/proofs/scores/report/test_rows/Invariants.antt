use Rattle.cov_station.proofs.TableReports.{HasFirstRows}
use Rattle.cov_station.proofs.scores.report.test_rows.Given as goal

abbrev pub invariant-loop-i : goal.invariant-loop-i
invariant-loop-i l = HasFirstRows l.table l.i l.rows
