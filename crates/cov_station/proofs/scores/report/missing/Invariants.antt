use Rattle.cov_station.proofs.TableReports.{HasFirstNumbers}
use Rattle.cov_station.proofs.scores.report.missing.Given as goal

abbrev pub invariant-loop-o : goal.invariant-loop-o
invariant-loop-o l = HasFirstNumbers l.table l.o l.numbers
