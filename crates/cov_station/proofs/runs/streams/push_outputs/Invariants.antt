use Rattle.std.proofs.Common.{◌≡◌, ◌++◌, take}
use Rattle.cov_station.specs.Playing.{stream_lines}
use Rattle.cov_station.proofs.runs.streams.push_outputs.Given as goal

abbrev pub invariant-loop-place : goal.invariant-loop-place
invariant-loop-place l =
    l.text ≡ l.fn.text ++ stream_lines l.net (take l.place l.net.outputs) (take l.place l.streams)
