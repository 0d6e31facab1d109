use Rattle.std.proofs.Common.{◌∙◌, ap, refl}
use Rattle.op_network.specs.declared.edge.Parts.{Parts}
use Rattle.cov_station.proofs.Played.{begun}
use Rattle.cov_station.proofs.runs.playing.begin.Goals as goal

pub returns-clause-played : goal.returns-clause-played
returns-clause-played c =
    begun c.args.net.now.network c.as_slice.result.now _
    (c.as_slice.ensures ∙ ap (λ (p : Parts). p.outputs) (c.parts.ensures.same ∙ c.network.ensures))
    c.in_ok-new.ensures.stands c.in_ok-new_streams.ensures refl
