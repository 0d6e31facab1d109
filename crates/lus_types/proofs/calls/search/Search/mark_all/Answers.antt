use Rattle.std.proofs.Common.{arith}
use Rattle.lus_types.proofs.Searches.{marks_next}
use Rattle.lus_types.proofs.calls.search.Search.mark_all.Goals as goal

pub loop-place-preserved : goal.loop-place-preserved
loop-place-preserved c = marks_next c.args.places.now c.loop-place.place-index c.args.self.now c.loop-place.self c.mark.new.self (omega arith) c.loop-place.invariant c.in_ok-mark.ensures.ok
