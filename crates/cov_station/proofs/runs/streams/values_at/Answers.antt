use Rattle.std.proofs.Common.{◌<◌, length, arith}
use Rattle.cov_station.proofs.Columns.{rest_size, value_added}
use Rattle.cov_station.proofs.runs.streams.values_at.Goals as goal

pub loop-instant-preserved : goal.loop-instant-preserved
loop-instant-preserved c =
    let within : c.args.place < length c.split_at.result.0.now = omega (arith, c.split_at.ensures.front_len, c.requires.place) in
    record {
      size = rest_size c.args.instants c.loop-instant._instant c.args.width c.loop-instant.rest.now _ (omega arith) c.split_at.ensures.back c.loop-instant.invariant.size;
      values = value_added c.loop-instant.stream c.add.new.self _ c.args.place c.args.width c.args.instants c.loop-instant._instant
          c.loop-instant.rest.now c.split_at.result.0.now c.split_at.result.1.now _ (omega arith) within
          c.split_at.ensures.front c.split_at.ensures.back c.in_ok-add.ensures.ok c.loop-instant.invariant.values;
    }
