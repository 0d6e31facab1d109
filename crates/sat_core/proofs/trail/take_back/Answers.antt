use Rattle.std.proofs.Common.{◌∙◌, arith, length-set}
use Rattle.sat_core.proofs.Placing.{Back-more}
use Rattle.sat_core.proofs.trail.take_back.Goals as goal

pub loop-entries-preserved : goal.loop-entries-preserved
loop-entries-preserved c = (
  Back-more c.args.entries.now.items c.loop-entries.entries.items c.pop.new.self.items c.loop-entries.places.items c.args.to c.in-Some.entry c.in-Some.ensures.items (omega arith) c.loop-entries.invariant.0,
  length-set c.loop-entries.places.items _ _ ∙ c.loop-entries.invariant.1,
)
