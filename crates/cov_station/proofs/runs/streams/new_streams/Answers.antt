use Rattle.std.proofs.Common.{◌++◌, ◌∷◌, [], ◌∙◌, ap, sym, arith}
use Rattle.std.proofs.lemmas.List.{map_more}
use Rattle.cov_station.specs.NetworkText.{stream_in}
use Rattle.cov_station.proofs.runs.streams.new_streams.Goals as goal

pub loop-e-preserved : goal.loop-e-preserved
loop-e-preserved c =
    c.in_ok-add.ensures.ok ∙ ap (λ s. c.loop-e.streams ++ s ∷ []) c.new.ensures ∙ ap (λ l. l ++ [] ∷ []) c.loop-e.invariant
    ∙ sym (map_more (stream_in []) c.args.ids.now c.loop-e._e-index (record { 0 = 0 }) (omega arith))
