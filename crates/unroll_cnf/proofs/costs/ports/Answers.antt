use Rattle.std.proofs.Common.{ap, ◌∙◌, arith, length}
use Rattle.op_network.specs.declared.edge.Parts.{Parts}
use Rattle.unroll_cnf.proofs.Totals.{ports_step}
use Rattle.unroll_cnf.proofs.costs.ports.Goals as goal

pub loop-e-preserved : goal.loop-e-preserved
loop-e-preserved c =
    ports_step c.args.net.now.edges (record { 0 = c.loop-e.e }) _ _ 255 c.loop-e.invariant (omega (arith, c.loop-e-test.true, c.loop-e.auto.e-end, c.len-e-end.ensures, ap (λ (parts : Parts). length parts.edges) c.parts.ensures.same)) (c.from-total.ensures ∙ c.ports.ensures) (omega arith)
