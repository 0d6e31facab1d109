use Rattle.std.proofs.Common.{arith}
use Rattle.dep_paths.proofs.Table.{knows_more}
use Rattle.dep_paths.proofs.near.fill.Goals as goal

pub loop-round-preserved : goal.loop-round-preserved
loop-round-preserved c = record {
  long = omega arith;
  all = c.relax_all.ensures.all;
  sound = c.relax_all.ensures.sound;
  knows = knows_more c.args.net.now c.loop-round.near c.relax_all.new.near c.loop-round._round c.relax_all.ensures.lower c.relax_all.ensures.done c.loop-round.invariant.knows;
}
