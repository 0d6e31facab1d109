use Rattle.std.proofs.Common.{◌≡◌, ℕ, true, false, length, replicate, refl, ap, ◌∙◌}
use Rattle.stream_run.specs.Firings.{Fired, ended_frame}
use Rattle.stream_run.proofs.Firings.{stands_open}
use Rattle.stream_run.proofs.firing.Firing.begin.Goals as goal

pub returns-clause-stands : goal.returns-clause-stands
returns-clause-stands c = λ acyclic rows h.
    let new : Fired = record { ended = ended_frame c.self.inside.ended c.self.inside.before; under_way = true; inputs = c.copy_row.new.row; values = c.self.inside.frame; marks = c.unset.new.marks } in
    let size : length c.self.inside.frame ≡ length c.args.net.now.edges = ap (λ (f : Fired). length f.values) c.self.view_is ∙ c.requires.of.values in
    stands_open c.args.net.now rows c.args.inputs.now c.args.self.now new c.parts.ensures.valid acyclic c.requires.closed refl c.copy_row.ensures (ap (λ (f : Fired). f.ended) c.self.view_is) size (c.unset.ensures ∙ ap (λ (n : ℕ). replicate n false) (c.self.invariant.1 ∙ size)) h
