use Rattle.std.proofs.Common.{◌≡◌, Bool, true, false, List, get_or, sym, ap, ◌∙◌, subst}
use Rattle.stream_run.specs.Firings.{Fired, FiringStandsFor, ended_frame}
use Rattle.stream_run.proofs.Firings.{fired_value}
use Rattle.stream_run.proofs.firing.Firing.value.Goals as goal

pub returns-then-is_set-clause-run : goal.returns-then-is_set-clause-run
returns-then-is_set-clause-run c = λ parts valid acyclic rows frames h run.
    let inner : Fired = record { ended = ended_frame c.self.inside.ended c.self.inside.before; under_way = c.self.inside.under_way; inputs = c.self.inside.inputs; values = c.self.inside.frame; marks = c.self.inside.marks } in
    let marked : get_or c.self.inside.marks c.args.e.0 false ≡ true = ap (λ (l : List Bool). get_or l c.args.e.0 false) (sym c.as_slice.ensures) ∙ sym c.is_set.ensures.is ∙ c.if-is_set.true in
    let is_open : c.self.inside.under_way ≡ true = c.if-not-self.false in
    fired_value parts rows frames inner c.args.e c.value.result valid acyclic (subst (λ (f : Fired). FiringStandsFor parts rows f) (sym c.self.view_is) h) run (record { is_open = is_open; marked = marked }) c.value.ensures
