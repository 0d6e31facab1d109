use Rattle.std.proofs.Common.{Bool, false, List, ◌<◌, length, get_or, sym, ap, ◌∙◌, arith}
use Rattle.lus_causality.proofs.Seeing.{listed_now}
use Rattle.lus_causality.proofs.off_cycles.see_edge.Goals as goal

pub see_all-requires-clause-before : goal.see_all-requires-clause-before
see_all-requires-clause-before c =
    let within : c.args.e.0 < length c.args.network.now.edges = omega (arith, c.if-e-len.false, c.len.ensures, c.requires.list.size) in
    listed_now c.args.network.now.edges c.args.e c.args.seen.now c.take.new.taken within (sym (ap (λ (l : List Bool). get_or l c.args.e.0 false) c.as_slice.ensures) ∙ c.if-as_slice-e.false) c.in_ok-take.ensures.sequence c.in_ok-take.ensures.marks c.requires.list
