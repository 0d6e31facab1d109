use Rattle.std.proofs.Common.{◌≡◌, ◌*◌, length, drop}
use Rattle.op_network.specs.Run.{rows}
use Rattle.cov_station.specs.Playing.{IsPlayed}
use Rattle.cov_station.proofs.runs.playing.play.Given as goal

abbrev pub invariant-loop-instant : goal.invariant-loop-instant
invariant-loop-instant g l =
    let width = length l.net.network.inputs in
    record {
      played : IsPlayed l.net.network (rows width l._instant l.test.values) l.playing;
      size : length l.playing.runner.frame ≡ length l.net.network.edges;
      rest : l.rest ≡ drop (l._instant * width) l.test.values;
    }
