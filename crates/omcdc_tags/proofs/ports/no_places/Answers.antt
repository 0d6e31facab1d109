use Rattle.std.proofs.Common.{◌≡◌, ◌∙◌, ℕ, ◌*◌, None, ap, arith, length, replicate}
use Rattle.op_network.specs.declared.edge.Parts.{Parts}
use Rattle.omcdc_tags.specs.declared.limits.TheConstants.{MOST_OPERANDS}
use Rattle.omcdc_tags.proofs.Tables.{no_table}
use Rattle.omcdc_tags.proofs.ports.no_places.Goals as goal

pub returns : goal.returns
returns c =
    let many : c.len-place-end.result ≡ length c.args.net.now.edges = c.len-place-end.ensures ∙ ap (λ (net : Parts). length net.edges) c.parts.ensures.same in
    let ended : c.loop-place._place ≡ MOST_OPERANDS * length c.args.net.now.edges = omega (arith, many, c.loop-place-test.false, c.loop-place.auto._place-end) in
    no_table (length c.args.net.now.edges) c.loop-place.table (c.loop-place.invariant ∙ ap (λ (n : ℕ). replicate n None) ended)
