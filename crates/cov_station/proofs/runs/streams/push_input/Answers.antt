use Rattle.std.proofs.Common.{ap, ◌∙◌, length}
use Rattle.op_network.specs.Run.{rows}
use Rattle.op_network.specs.declared.edge.Parts.{Parts}
use Rattle.cov_station.specs.NetworkText.{input_rows}
use Rattle.cov_station.specs.Playing.{column}
use Rattle.cov_station.proofs.Columns.{line_added}
use Rattle.cov_station.proofs.runs.streams.push_input.Goals as goal

pub returns : goal.returns
returns c =
    let place = c.args.place in
    let test = c.args.test.now in
    let width = c.len-width.ensures ∙ ap (λ (p : Parts). length p.inputs) c.parts.ensures.same in
    let stream = c.as_slice-2.ensures ∙ c.in_ok-stream.ensures
    ∙ ap (λ vs. column place (rows c.len-width.result test.instants vs)) c.as_slice.ensures
    ∙ ap (λ w. column place (rows w test.instants test.values)) width in
    line_added c.args.net.now (input_rows c.args.net.now test) place c.args.e c.as_slice-2.result.now
    c.args.text.now c.stream_line.new.out c.stream_line.result c.parts.ensures.valid c.requires.place stream c.stream_line.ensures.ok
