use Rattle.std.proofs.Common.{ap, ◌∙◌, arith}
use Rattle.op_network.specs.declared.edge.Parts.{Parts}
use Rattle.stream_run.proofs.Computing.{edge_within, next_in, all_computed}
use Rattle.stream_run.proofs.runner.compute_frame.Goals as goal

pub compute_edge-requires-clause-edge : goal.compute_edge-requires-clause-edge
compute_edge-requires-clause-edge c =
    let whole = c.as_slice-edges.ensures ∙ ap (λ (parts : Parts). parts.edges) (c.parts-parts.ensures.same ∙ c.network.ensures) in
    edge_within c.args.net.now.network.width c.args.net.now.network.edges c.args.net.now.sequence c.sequence-e-items.result.now c.sequence-e-items.ensures.order c.sequence-e-items.ensures.same c.loop-e.e-index _ c.loop-e-test.true c.as_slice-edges.result.now whole

pub loop-e-preserved : goal.loop-e-preserved
loop-e-preserved c =
    let whole = c.as_slice-edges.ensures ∙ ap (λ (parts : Parts). parts.edges) (c.parts-parts.ensures.same ∙ c.network.ensures) in
    next_in c.args.net.now.network.width c.args.net.now.network.edges c.args.net.now.sequence c.sequence-e-items.result.now c.sequence-e-items.ensures.order c.sequence-e-items.ensures.same c.loop-e.e-index _ c.loop-e-test.true c.as_slice-edges.result.now whole c.parts-parts.result.now.width (ap (λ (parts : Parts). parts.width) (c.parts-parts.ensures.same ∙ c.network.ensures)) _ c.args.inputs.now c.loop-e.now c.compute_edge.new.now c.compute_edge.ensures.set c.loop-e.invariant

pub returns : goal.returns
returns c = record { frame = all_computed c.args.net.now.network.width c.args.net.now.network.edges _ c.args.inputs.now c.args.net.now.sequence c.sequence-e-items.result.now c.loop-e.e-index c.loop-e.now c.sequence-e-items.ensures.order c.sequence-e-items.ensures.same (omega (arith, c.loop-e-test.false)) c.loop-e.invariant }
