use Rattle.std.proofs.Common.{Bool, List, subst}
use Rattle.lus_causality.specs.Causality.{operands_now}
use Rattle.lus_causality.specs.Marks.{AreMarked}
use Rattle.lus_causality.proofs.Seeing.{now_off}
use Rattle.lus_causality.proofs.off_cycles.rule_out.Goals as goal

pub returns : goal.returns
returns c =
    let operands = subst (λ (l : List Bool). AreMarked (operands_now c.args.network.now.edges c.args.e) l) c.as_slice.ensures (c.are_marked.ensures.0 c.if-not-are_marked.false) in
    now_off c.args.network.now.edges c.args.e c.args.seen.now c.args.off.now c.set_mark.new.marks c.requires.edge c.requires.unseen operands c.requires.list c.requires.closed c.set_mark.ensures c.requires.before
