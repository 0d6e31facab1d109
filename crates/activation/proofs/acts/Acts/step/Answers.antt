-- The flags of the instant before are put aside, and those of the instant are put.
use Rattle.std.proofs.Common.{◌∙◌, length, refl, sym, ap, subst}
use Rattle.activation.specs.Acts.{IsMadeFor}
use Rattle.activation.specs.Passing.{AreFlags, ArePassages}
use Rattle.activation.proofs.Actives.{stands_after}
use Rattle.activation.proofs.Lending.{along, items_back}
use Rattle.activation.proofs.acts.Acts.step.Goals as goal

pub returns-clause-stands : goal.returns-clause-stands
returns-clause-stands c =
    let s = c.self.inside in
    let edges = c.args.net.now.edges in
    let frame = c.args.frame.now in
    let passages = c.set_passages.new.passages in
    let passages_back = items_back s.passages passages (c.set_passages.auto.passages ∙ ap length c.items_mut.ensures.value) in
    let flags_back = items_back c.swap.new.x c.set_flags.new.flags (c.set_flags.auto.flags ∙ ap length c.items_mut-2.ensures.value) in
    let passes : ArePassages edges frame s.begun s.gates passages =
    along (λ e f g p. ArePassages e f s.begun g p) _ _ _ _ _ _ _ _ (c.as_slice-edges.ensures ∙ ap (λ parts. parts.edges) c.parts.ensures.same) c.values-values.ensures c.as_slice.ensures refl c.set_passages.ensures in
    let flags : AreFlags s.nodes passages s.flags _ =
    along AreFlags _ _ _ _ _ _ _ _ c.as_slice-2.ensures (c.as_slice-3.ensures ∙ passages_back) (c.as_slice-4.ensures ∙ c.swap.ensures.y_after) (sym flags_back) c.set_flags.ensures in
    stands_after edges frame _ _ _ _ _ passages c.args.self.now c.self.view_is passes flags

pub returns-clause-made : goal.returns-clause-made
returns-clause-made c made =
    let viewed = subst (IsMadeFor c.args.plan.now) (sym c.self.view_is) made in
    record { size = viewed.size; goals = viewed.goals }

pub returns-clause-tree : goal.returns-clause-tree
returns-clause-tree c = ap (λ kept. kept.tree) c.self.view_is

pub returns-clause-goals : goal.returns-clause-goals
returns-clause-goals c = ap (λ kept. kept.goals) c.self.view_is
