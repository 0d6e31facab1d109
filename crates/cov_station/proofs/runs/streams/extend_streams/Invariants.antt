use Rattle.std.proofs.Common.{◌≡◌, length}
use Rattle.cov_station.proofs.GrowingStreams.{GoOnTo}
use Rattle.cov_station.proofs.runs.streams.extend_streams.Given as goal

abbrev pub invariant-loop-place : goal.invariant-loop-place
invariant-loop-place l = record {
  size : length l.streams ≡ length l.fn.streams;
  longer : GoOnTo l.place l.frame l.ids l.fn.streams l.streams;
}
