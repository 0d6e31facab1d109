use Rattle.std.proofs.Common.{◌≡◌, ◌∙◌, ℕ, ◌*◌, false, ap, length, refl, replicate}
use Rattle.op_network.specs.declared.edge.Parts.{Parts}
use Rattle.omcdc_tags.proofs.Sizes.{are_sized}
use Rattle.omcdc_tags.proofs.sets.TagSets.new.Goals as goal

pub returns-clause-sized : goal.returns-clause-sized
returns-clause-sized c =
    let count = c.count-bits.result in
    let many : c.len-edges.result ≡ length c.args.net.now.edges = c.len-edges.ensures ∙ ap (λ (net : Parts). length net.edges) c.parts.ensures.same in
    let blank = ap (λ (n : ℕ). replicate n (replicate (2 * count) false)) many in
    are_sized (length c.args.net.now.edges) (2 * count) count c.args.ports.now c.args.table.now _ c.requires c.count-bits.ensures.count c.count-bits.ensures.few refl
    (c.in_ok-rows.ensures ∙ blank) (c.in_ok-rows-2.ensures ∙ blank) c.in_ok-new.ensures c.in_ok-new-2.ensures c.in_ok-new-3.ensures c.in_ok-new-4.ensures
