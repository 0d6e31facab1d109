use Rattle.std.proofs.Common.{◌++◌, ◌∙◌, Some, ap, arith, length, map, sym, length-append}
use Rattle.dep_paths.specs.declared.path.Obligation.TheVariants.{Mcc}
use Rattle.dep_paths.specs.declared.path.Pin.{Pin}
use Rattle.dep_paths.specs.Duties.{pins_on}
use Rattle.dep_paths.proofs.DutyLists.{none_plain}
use Rattle.dep_paths.proofs.duties.multiple.add_multiple.Goals as goal

pub returns-else-len-before : goal.returns-else-len-before
returns-else-len-before c =
    let pins = pins_on c.args.edges.now c.args.path.now in
    let each = map (λ (pin : Pin). Mcc c.args.place (Some pin)) pins in
    c.in_ok-add_pins.ensures
    ∙ ap (λ xs. c.args.duties.now ++ xs) (sym (none_plain (Mcc c.args.place) pins (λ none.
    c.if-len-before.false (omega (arith, c.len.ensures, c.len-before.ensures, ap length c.in_ok-add_pins.ensures, length-append c.args.duties.now each, none)))))
