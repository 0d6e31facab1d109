use Rattle.std.proofs.Common.{arith}
use Rattle.node_expand.proofs.Rooted.{roots_step}
use Rattle.node_expand.proofs.roots.add_items.Goals as goal

pub loop-i-preserved : goal.loop-i-preserved
loop-i-preserved c =
    roots_step c.args.sizes.now c.loop-i.next c.edge_behind-behind.result c.args.items.now c.args.outlines.now c.loop-i.i c.index-items-i.result c.index-outlines-i.result c.loop-i.places c.add_item.new.places _
    (omega arith) c.requires c.index-items-i.is c.index-outlines-i.is c.in_ok-add_item.ensures c.edge_behind-behind.ensures c.loop-i.invariant
