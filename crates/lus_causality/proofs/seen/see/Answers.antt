use Rattle.std.proofs.Common.{Bool, false, List, get_or, sym, ap, ◌∙◌}
use Rattle.lus_causality.proofs.Seeing.{last_listed, listed_now}
use Rattle.lus_causality.proofs.seen.see.Goals as goal

pub returns-clause-list : goal.returns-clause-list
returns-clause-list c = listed_now c.args.network.now.edges c.args.o c.args.seen.now c.take.new.taken c.requires.edge (sym (ap (λ (l : List Bool). get_or l c.args.o.0 false) c.as_slice.ensures) ∙ c.if-as_slice-o.false) c.in_ok-take.ensures.sequence c.in_ok-take.ensures.marks c.requires.before

pub returns-clause-listed : goal.returns-clause-listed
returns-clause-listed c = last_listed c.args.seen.now c.take.new.taken c.args.o c.in_ok-take.ensures.sequence
