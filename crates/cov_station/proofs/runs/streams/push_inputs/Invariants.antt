use Rattle.std.proofs.Common.{take}
use Rattle.cov_station.specs.NetworkText.{input_rows}
use Rattle.cov_station.specs.Playing.{AddsLines}
use Rattle.cov_station.proofs.runs.streams.push_inputs.Given as goal

abbrev pub invariant-loop-place : goal.invariant-loop-place
invariant-loop-place l =
    AddsLines l.net (input_rows l.net l.test) (take l.place l.net.inputs) l.fn.text l.text
