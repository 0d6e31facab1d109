use Rattle.std.proofs.Common.{ap, length, arith}
use Rattle.cov_station.proofs.TableReports.{all_rows, next_report}
use Rattle.cov_station.proofs.scores.report.test_rows.Goals as goal

pub loop-i-preserved : goal.loop-i-preserved
loop-i-preserved c =
    next_report c.args.table.now c.tests-test-items.result.now c.loop-i.i c.test-item.result c.kept.result c.in_ok-test_row.field-0 c.loop-i.rows c.add.new.self
    c.tests-test-items.ensures.same c.loop-i-test.true c.test-item.is c.kept.ensures c.requires.names c.in_ok-test_row.ensures c.in_ok-add.ensures.ok c.loop-i.invariant

pub returns-clause-rows : goal.returns-clause-rows
returns-clause-rows c = all_rows c.args.table.now c.loop-i.i c.loop-i.rows (let size = ap length c.tests-test-items.ensures.same in omega (arith, size, c.loop-i-test.false)) c.loop-i.invariant
