use Rattle.std.proofs.Common.{List, refl, sym, ap, ◌∙◌, subst}
use Rattle.op_network.specs.declared.edge.Parts.{Parts}
use Rattle.op_network.specs.declared.value.Value.{Value}
use Rattle.stream_run.specs.Firings.{Fired, FiringStandsFor, IsReady, ended_frame}
use Rattle.stream_run.proofs.Firings.{stands_fired_in}
use Rattle.stream_run.proofs.firing.Firing.fire.Goals as goal

pub returns-clause-stands : goal.returns-clause-stands
returns-clause-stands c = λ rows h.
    let inner : Fired = record { ended = ended_frame c.self.inside.ended c.self.inside.before; under_way = c.self.inside.under_way; inputs = c.self.inside.inputs; values = c.self.inside.frame; marks = c.self.inside.marks } in
    let new : Fired = record { ended = ended_frame c.self.inside.ended c.self.inside.before; under_way = c.self.inside.under_way; inputs = c.self.inside.inputs; values = c.compute_edge.new.now; marks = c.set_mark.new.marks } in
    let ready : IsReady c.args.net.now.edges inner c.args.e = subst (λ (f : Fired). IsReady c.args.net.now.edges f c.args.e) (sym c.self.view_is) c.requires.ready in
    stands_fired_in c.args.net.now rows inner new c.args.e _ _ _ _ (ap (λ (parts : Parts). parts.width) c.parts-parts.ensures.same) (c.as_slice.ensures ∙ ap (λ (parts : Parts). parts.edges) c.parts-parts.ensures.same) (c.last-before.ensures ∙ ap (λ (l : List Value). ended_frame c.self.inside.ended l) c.values.ensures) c.as_slice-inputs.ensures c.compute_edge.ensures.set ready ready.is_open refl refl c.set_mark.ensures (subst (λ (f : Fired). FiringStandsFor c.args.net.now rows f) (sym c.self.view_is) h)
