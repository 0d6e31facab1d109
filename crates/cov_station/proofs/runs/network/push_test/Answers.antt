use Rattle.std.proofs.Common.{ℕ, List, ap, ◌∷◌, [], ◌++◌, ◌∙◌, codes, subst}
use Rattle.op_network.specs.declared.edge.Parts.{Parts}
use Rattle.op_network.specs.declared.value.Value.{Value}
use Rattle.cov_station.specs.NetworkText.{input_rows}
use Rattle.cov_station.specs.Playing.{AddsLines, stream_lines}
use Rattle.cov_station.proofs.Texts.{test_added}
use Rattle.cov_station.proofs.runs.network.push_test.Goals as goal

pub returns : goal.returns
returns g c =
    let parts = c.args.net.now.network in
    let test = c.args.test.now in
    let named = c.push_name.new.text in
    let with_inputs = c.push_inputs.new.text in
    let name = c.in_ok-push_name.ensures ∙ ap (λ (w : List ℕ). c.args.text.now ++ (codes "test " ++ (w ++ 10 ∷ []))) c.bytes.ensures in
    let inputs = subst (λ (p : Parts). AddsLines p (input_rows p test) p.inputs named with_inputs) c.network.ensures c.in_ok-push_inputs.ensures in
    let outputs = c.in_ok-push_outputs.ensures
    ∙ ap (λ (p : Parts). with_inputs ++ stream_lines p p.outputs c.as_slice.result.now) c.network-2.ensures
    ∙ ap (λ (ss : List (List Value)). with_inputs ++ stream_lines parts parts.outputs ss) c.as_slice.ensures in
    test_added parts test c.in_ok-playing.playing c.args.text.now named with_inputs c.push_outputs.new.text
    c.push_failure.new.text name inputs c.in_ok-playing.ensures outputs c.in_ok-push_failure.ensures
