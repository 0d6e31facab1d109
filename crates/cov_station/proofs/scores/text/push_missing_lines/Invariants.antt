use Rattle.cov_station.proofs.TableTexts.{HasFirstMissing}
use Rattle.cov_station.proofs.scores.text.push_missing_lines.Given as goal

abbrev pub invariant-loop-o : goal.invariant-loop-o
invariant-loop-o l = HasFirstMissing l.table l.o l.fn.text l.text
