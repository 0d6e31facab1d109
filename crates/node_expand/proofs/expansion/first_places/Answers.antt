use Rattle.std.proofs.Common.{arith}
use Rattle.node_expand.proofs.PartsMade.{places_step}
use Rattle.node_expand.proofs.expansion.first_places.Goals as goal

pub loop-i-preserved : goal.loop-i-preserved
loop-i-preserved c = places_step c.args.inputs.now c.loop-i.i c.loop-i.places c.add.new.self _ (omega arith) c.in_ok-add.ensures.ok c.loop-i.invariant
