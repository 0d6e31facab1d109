use Rattle.std.proofs.Common.{arith}
use Rattle.node_expand.proofs.RootsMade.{ids_step}
use Rattle.node_expand.proofs.items.add_ids.Goals as goal

pub loop-i-preserved : goal.loop-i-preserved
loop-i-preserved c =
    ids_step c.args.prefix.now c.args.asserted c.args.roots.now c.args.values.now c.loop-i.i c.index-roots-i.result c.value_at-value.result c.loop-i.edges c.add_id.new.edges _
    (omega arith) c.index-roots-i.is c.value_at-value.ensures c.in_ok-add_id.ensures c.loop-i.invariant
