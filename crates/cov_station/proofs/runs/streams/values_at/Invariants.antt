use Rattle.std.proofs.Common.{◌≡◌, ◌++◌, ◌-◌, ◌*◌, length}
use Rattle.op_network.specs.Run.{rows}
use Rattle.cov_station.specs.Playing.{column}
use Rattle.cov_station.proofs.runs.streams.values_at.Given as goal

abbrev pub invariant-loop-instant : goal.invariant-loop-instant
invariant-loop-instant l =
    let left = l.instants - l._instant in
    record {
      size : length l.rest ≡ left * l.width;
      values : l.stream ++ column l.place (rows l.width left l.rest) ≡ column l.place (rows l.width l.instants l.values);
    }
