use Rattle.std.proofs.Common.{◌∙◌, sym, ap}
use Rattle.cnf_form.specs.Marks.{with_mark}
use Rattle.proof_check.proofs.Following.{marks_of_more}
use Rattle.proof_check.proofs.check.mark_all.Goals as goal

pub loop-lit-preserved : goal.loop-lit-preserved
loop-lit-preserved c =
    c.in_ok-mark.ensures.ok ∙ (ap (with_mark _) c.loop-lit.invariant ∙ sym (marks_of_more c.args.lits.now c.loop-lit.lit-index _ c.loop-lit-test.true))
