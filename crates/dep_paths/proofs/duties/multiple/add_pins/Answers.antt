use Rattle.std.proofs.Common.{Some, arith}
use Rattle.dep_paths.specs.declared.path.Obligation.TheVariants.{Mcc}
use Rattle.dep_paths.specs.declared.path.Pin.{Pin}
use Rattle.dep_paths.specs.declared.path.Step.{Step}
use Rattle.dep_paths.proofs.DutyLists.{mapped_pins_more}
use Rattle.dep_paths.proofs.Numbering.{added}
use Rattle.dep_paths.proofs.duties.multiple.add_pins.Goals as goal

pub loop-before-preserved : goal.loop-before-preserved
loop-before-preserved c =
    let none : Step = record { edge = record { 0 = 0 }; port = 0 } in
    added _ _ _ _ _ _ c.loop-before.invariant c.in_ok-add_pins_at-2.ensures
    (mapped_pins_more (λ (pin : Pin). Mcc c.args.place (Some pin)) c.args.edges.now c.args.path.now c.as_slice-step-items.result.now c.loop-before.before none c.as_slice-step-items.ensures (omega arith))
