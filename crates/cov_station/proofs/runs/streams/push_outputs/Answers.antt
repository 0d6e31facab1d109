use Rattle.std.proofs.Common.{◌∙◌, ap, arith}
use Rattle.op_network.specs.declared.edge.Parts.{Parts}
use Rattle.cov_station.proofs.GrowingStreams.{line_pushed}
use Rattle.cov_station.proofs.runs.streams.push_outputs.Goals as goal

pub loop-place-preserved : goal.loop-place-preserved
loop-place-preserved c =
    line_pushed c.args.net.now c.args.net.now.outputs c.as_slice-e-items.result.now c.args.streams.now c.loop-place.place
    (record { 0 = 0 }) c.index-streams-place.result c.as_slice.result.now c.args.text.now c.loop-place.text c.stream_line.new.out
    (c.as_slice-e-items.ensures ∙ ap (λ (p : Parts). p.outputs) c.parts.ensures.same) (omega arith) c.requires
    (c.as_slice.ensures ∙ c.index-streams-place.is) c.in_ok-stream_line.ensures.ok c.loop-place.invariant
