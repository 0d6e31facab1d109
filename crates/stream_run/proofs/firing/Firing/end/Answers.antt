use Rattle.std.proofs.Common.{false, refl, sym, ap, subst}
use Rattle.std.specs.Prelude.{Some}
use Rattle.stream_run.specs.Firings.{Fired, FiringStandsFor, IsFinished, ended_frame}
use Rattle.stream_run.proofs.Firings.{stands_closed}
use Rattle.stream_run.proofs.firing.Firing.end.Goals as goal

pub returns-clause-stands : goal.returns-clause-stands
returns-clause-stands c = λ parts rows h.
    let inner : Fired = record { ended = ended_frame c.self.inside.ended c.self.inside.before; under_way = c.self.inside.under_way; inputs = c.self.inside.inputs; values = c.self.inside.frame; marks = c.self.inside.marks } in
    let new : Fired = record { ended = Some c.swap.new.x; under_way = false; inputs = c.self.inside.inputs; values = c.swap.new.y; marks = c.self.inside.marks } in
    let finished : IsFinished inner = subst IsFinished (sym c.self.view_is) c.requires in
    stands_closed parts rows inner new finished refl (ap Some c.swap.ensures.x_after) (subst (λ (f : Fired). FiringStandsFor parts rows f) (sym c.self.view_is) h)
