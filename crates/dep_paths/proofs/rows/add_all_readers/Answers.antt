use Rattle.std.proofs.Common.{◌≡◌, ◌∙◌, ap, arith, length}
use Rattle.op_network.specs.declared.edge.Parts.{Parts}
use Rattle.dep_paths.proofs.Growth.{below_more, rows_are}
use Rattle.dep_paths.proofs.rows.add_all_readers.Goals as goal

pub loop-edge-preserved : goal.loop-edge-preserved
loop-edge-preserved c = record {
  long = omega arith;
  added = below_more c.args.net.now.edges c.args.near.now c.args.room c.loop-edge.edge c.args.rows.now c.loop-edge.rows c.add_readers.new.rows c.loop-edge.invariant.added c.in_ok-add_readers.ensures;
}

pub returns : goal.returns
returns c =
    let end : c.len-edge-end.result ≡ length c.args.net.now.edges = c.len-edge-end.ensures ∙ ap (λ (p : Parts). length p.edges) c.parts.ensures.same in
    rows_are c.args.net.now.edges c.args.near.now c.args.room c.loop-edge.edge c.args.rows.now c.loop-edge.rows (omega arith) (omega arith) c.requires.rows c.loop-edge.invariant.added
