use Rattle.std.proofs.Common.{◌∙◌, ap, subst}
use Rattle.std.proofs.lemmas.Result.{on_ok_weaker}
use Rattle.op_network.specs.declared.edge.Parts.{Parts}
use Rattle.op_network.specs.Valid.{IsValid}
use Rattle.cov_station.proofs.GrowingStreams.{lent_go_on}
use Rattle.cov_station.proofs.Played.{played_more}
use Rattle.cov_station.proofs.runs.playing.play_instant.Goals as goal

pub returns-clause-played : goal.returns-clause-played
returns-clause-played g c =
    let parts = c.args.net.now.network in
    let frame = c.step.new.self.frame in
    let same = c.parts.ensures.same ∙ c.network.ensures in
    let outputs = c.as_slice-outputs.ensures ∙ ap (λ (p : Parts). p.outputs) same in
    let valid = subst IsValid c.network.ensures c.parts.ensures.valid in
    on_ok_weaker c.extend_streams.result (λ goes rows played.
    let streams = lent_go_on frame c.frame.result.now parts.outputs c.as_slice-outputs.result.now c.args.playing.now.streams
    c.items_mut.result.now c.extend_streams.new.streams outputs c.frame.ensures c.items_mut.ensures.value goes in
    played_more parts rows c.args.inputs.now c.args.playing.now _ c.one_run.ensures.only valid c.sequence.ensures.no_cycle
    (c.step.ensures.stands rows) c.step.ensures.instant streams c.first_failed-playing.ensures played) c.extend_streams.ensures
