use Rattle.std.proofs.Common.{arith}
use Rattle.dep_paths.proofs.Growth.{reader_added, reader_far}
use Rattle.dep_paths.proofs.rows.add_reader.Goals as goal

pub returns-then-near-step : goal.returns-then-near-step
returns-then-near-step c = reader_far c.args.net.now.edges c.args.near.now c.args.rows.now c.args.room c.args.step (omega arith) (omega arith)

pub returns-in-Ok : goal.returns-in-Ok
returns-in-Ok c = reader_added c.args.net.now.edges c.args.near.now c.args.rows.now c.args.room c.operand-before.result c.args.step c.index-rows-before.result c.push.new.self
    c.operand-before.ensures.operand (omega arith) (omega arith) (omega arith) c.in-Ok.ensures.ok
