use Rattle.std.proofs.Common.{arith}
use Rattle.node_expand.proofs.PartsMade.{inputs_step}
use Rattle.node_expand.proofs.expansion.add_inputs.Goals as goal

pub loop-i-preserved : goal.loop-i-preserved
loop-i-preserved c =
    inputs_step c.args.inputs.now c.loop-i.i c.index-inputs-i.result c.loop-i.edges c.add_input.new.edges _ (omega arith) c.index-inputs-i.is c.in_ok-add_input.ensures c.loop-i.invariant
