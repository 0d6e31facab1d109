use Rattle.std.proofs.Common.{arith, ap, sym, ◌∙◌}
use Rattle.lus_types.specs.Graphs.{is_marked}
use Rattle.lus_types.proofs.Searches.{mark_put}
use Rattle.lus_types.proofs.calls.search.Search.mark.Goals as goal

pub returns-clause-ok : goal.returns-clause-ok
returns-clause-ok c = mark_put c.args.self.now _ c.args.place (omega arith) (ap (λ ms. is_marked ms c.args.place) (sym c.as_slice.ensures) ∙ sym c.is_marked.ensures ∙ c.if-is_marked.false) c.set_mark.ensures c.in_ok-add.ensures.ok
