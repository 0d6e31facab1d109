use Rattle.std.proofs.Common.{ap, length, arith}
use Rattle.cov_station.proofs.TableTexts.{all_lines, next_test}
use Rattle.cov_station.proofs.scores.text.push_test_lines.Goals as goal

pub loop-i-preserved : goal.loop-i-preserved
loop-i-preserved c =
    next_test c.args.table.now c.tests-test-items.result.now c.loop-i.i c.test-item.result c.kept.result c.args.text.now c.loop-i.text c.push_test_line.new.text
    c.tests-test-items.ensures.same c.loop-i-test.true c.test-item.is c.kept.ensures c.in_ok-push_test_line.ensures c.loop-i.invariant

pub returns : goal.returns
returns c = all_lines c.args.table.now c.loop-i.i c.args.text.now c.loop-i.text (let size = ap length c.tests-test-items.ensures.same in omega (arith, size, c.loop-i-test.false)) c.loop-i.invariant
