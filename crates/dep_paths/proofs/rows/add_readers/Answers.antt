use Rattle.std.proofs.Common.{arith}
use Rattle.dep_paths.proofs.Growth.{through_more}
use Rattle.dep_paths.proofs.rows.add_readers.Goals as goal

pub loop-port-preserved : goal.loop-port-preserved
loop-port-preserved c = record {
  long = omega arith;
  added = through_more c.args.net.now.edges c.args.near.now c.args.room c.args.edge c.loop-port.port c.args.rows.now c.loop-port.rows c.add_reader.new.rows c.loop-port.invariant.added c.in_ok-add_reader.ensures;
}
