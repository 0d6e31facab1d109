use Rattle.std.proofs.Common.{◌∙◌, sym, subst, refl}
use Rattle.lus_types.specs.Graphs.{IsReach}
use Rattle.lus_types.proofs.CycleNumbers.{ends_there, starts_there, numbered_before, numbered_cycle}
use Rattle.lus_types.proofs.calls.cycles.number_cycle.Goals as goal

pub returns-then-is_marked-clause-ok : goal.returns-then-is_marked-clause-ok
returns-then-is_marked-clause-ok c = ends_there c.args.rows.now c.args.place c.args.ending.now c.args.numbers.now (sym c.is_marked.ensures ∙ c.if-is_marked.true) c.requires.ending c.requires.before

pub returns-then-is_marked-2-clause-ok : goal.returns-then-is_marked-2-clause-ok
returns-then-is_marked-2-clause-ok c = starts_there c.args.rows.now c.args.back.now c.args.place c.args.starting.now c.args.numbers.now c.requires.back (sym c.is_marked-2.ensures ∙ c.if-is_marked-2.true) c.requires.starting c.requires.before

pub returns-then-numbers-place-clause-ok : goal.returns-then-numbers-place-clause-ok
returns-then-numbers-place-clause-ok c = numbered_before c.args.rows.now c.args.place c.args.numbers.now c.requires.place c.if-numbers-place.true c.requires.before

pub returns-clause-ok : goal.returns-clause-ok
returns-clause-ok c =
    numbered_cycle c.args.rows.now c.args.back.now c.args.place c.as_slice.result.now c.as_slice-2.result.now c.args.numbers.now c.number_both.new.numbers _ c.requires.back c.requires.place
    (subst (IsReach c.args.rows.now c.args.place) (sym c.as_slice.ensures) c.in_ok-there.ensures.ok)
    (subst (IsReach c.args.back.now c.args.place) (sym c.as_slice-2.ensures) c.in_ok-here.ensures.ok)
    refl c.number_both.ensures c.requires.before
