use Rattle.std.proofs.Common.{arith, get_or}
use Rattle.dep_paths.specs.declared.path.Step.{Step}
use Rattle.dep_paths.proofs.DutyLists.{few_truths, pin_count_more}
use Rattle.dep_paths.proofs.duties.counts.pin_count.Goals as goal

pub loop-step-preserved : goal.loop-step-preserved
loop-step-preserved c =
    let none : Step = record { edge = record { 0 = 0 }; port = 0 } in
    let items = c.as_slice-step-items.result.now in
    let i = c.loop-step.step-index in
    record {
      so_far = omega (arith, c.loop-step.invariant.so_far, c.truth_count-count-in-loop-step.ensures, pin_count_more c.args.edges.now c.args.path.now items i none c.as_slice-step-items.ensures (omega arith));
      small = omega (arith, c.loop-step.invariant.small, c.truth_count-count-in-loop-step.ensures, few_truths c.args.edges.now (get_or items i none).edge);
    }
