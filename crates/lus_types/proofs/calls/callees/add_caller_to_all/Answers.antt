use Rattle.std.proofs.Common.{arith}
use Rattle.lus_types.proofs.CallRows.{adds_next}
use Rattle.lus_types.proofs.calls.callees.add_caller_to_all.Goals as goal

pub loop-place-preserved : goal.loop-place-preserved
loop-place-preserved c = adds_next c.args.caller c.args.places.now c.loop-place.place-index c.args.rows.now c.loop-place.rows c.add_caller.new.rows (omega arith) c.loop-place.invariant c.in_ok-add_caller.ensures.ok
