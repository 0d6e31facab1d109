use Rattle.std.proofs.Common.{arith, refl}
use Rattle.dep_paths.proofs.Table.{edges_more, rose_more}
use Rattle.dep_paths.proofs.near.relax_all.Goals as goal

pub loop-edge-preserved : goal.loop-edge-preserved
loop-edge-preserved c =
    let so_far = c.loop-edge.invariant in
    let relaxed = c.relax_edge.ensures in
    record {
      long = omega arith;
      all = relaxed.all;
      sound = relaxed.sound;
      lower = rose_more c.args.near.now c.loop-edge.near c.relax_edge.new.near so_far.lower relaxed.lower;
      counted = edges_more c.args.net.now.edges c.loop-edge.edge _ c.args.near.now c.loop-edge.near c.relax_edge.new.near so_far.counted so_far.lower relaxed.lower refl relaxed.done;
    }
