use Rattle.std.proofs.Common.{◌∙◌, ap, subst, sym, refl, false}
use Rattle.std.specs.Prelude.{slice_get}
use Rattle.omcdc_tags.specs.Tags.{Kept, TellsObserved, has_bit}
use Rattle.omcdc_tags.specs.contracts.tags.Tags.{the_view}
use Rattle.omcdc_tags.proofs.Telling.{tells_some, tells_none}
use Rattle.omcdc_tags.proofs.tags.Tags.observed.Goals as goal

pub returns-in-Some : goal.returns-in-Some
returns-in-Some c =
    let at = ap (λ places. slice_get places c.args.condition) (sym c.as_slice.ensures) ∙ c.in-Some.ensures in
    let is = c.get.ensures ∙ ap (has_bit c.self.inside.sets.observed) c.bit_of.ensures in
    subst (λ (kept : Kept). TellsObserved kept c.args.condition c.args.value c.get.result) c.self.view_is
    (tells_some (the_view c.self.inside) c.args.condition c.in-Some.place c.args.value c.get.result at is)

pub returns-in-None : goal.returns-in-None
returns-in-None c =
    let at = ap (λ places. slice_get places c.args.condition) (sym c.as_slice.ensures) ∙ c.in-None.ensures in
    subst (λ (kept : Kept). TellsObserved kept c.args.condition c.args.value false) c.self.view_is
    (tells_none (the_view c.self.inside) c.args.condition c.args.value false at refl)
