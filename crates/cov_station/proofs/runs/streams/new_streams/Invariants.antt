use Rattle.std.proofs.Common.{◌≡◌, [], map, take}
use Rattle.cov_station.specs.NetworkText.{stream_in}
use Rattle.cov_station.proofs.runs.streams.new_streams.Given as goal

abbrev pub invariant-loop-e : goal.invariant-loop-e
invariant-loop-e l = l.streams ≡ map (stream_in []) (take l._e-index l.ids)
