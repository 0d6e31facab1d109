use Rattle.cov_station.proofs.TableTexts.{HasFirstLines}
use Rattle.cov_station.proofs.scores.text.push_test_lines.Given as goal

abbrev pub invariant-loop-i : goal.invariant-loop-i
invariant-loop-i l = HasFirstLines l.table l.i l.fn.text l.text
