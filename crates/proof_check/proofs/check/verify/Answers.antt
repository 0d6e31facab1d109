use Rattle.std.proofs.Common.{◌≡◌, ◌∙◌, length, inr, arith, sym}
use Rattle.proof_check.specs.Table.{state}
use Rattle.proof_check.proofs.Sound.{accepted_sound}
use Rattle.proof_check.proofs.Steps.{step_ends, step_refused, no_more_steps}
use Rattle.proof_check.proofs.check.verify.Goals as goal

pub returns-then-is_end-clause-unsatisfied : goal.returns-then-is_end-clause-unsatisfied
returns-then-is_end-clause-unsatisfied c =
    accepted_sound c.args.formula.now.clauses c.as_slice-steps.result.now
    (c.loop-i.invariant ∙ step_ends _ _ _ _ c.loop-i-test.true c.index-steps-i.is _ c.in-Ok.ensures.ok (sym c.is_end.ensures ∙ c.if-is_end.true))

pub returns-in-Err-clause-refused : goal.returns-in-Err-clause-refused
returns-in-Err-clause-refused c =
    let here = step_refused (state c.loop-i.table c.loop-i.last) _ _ _ c.loop-i-test.true c.index-steps-i.is c.in-Err.fault c.in-Err.ensures.err in
    rw (c.at_step.ensures, ← c.as_slice-steps.ensures, c.loop-i.invariant) here

pub returns-clause-refused : goal.returns-clause-refused
returns-clause-refused c =
    let end : length c.as_slice-steps.result.now ≡ c.loop-i.i = omega arith in
    rw (end, ← c.as_slice-steps.ensures, c.loop-i.invariant) (inr (no_more_steps _ _ _ c.loop-i-test.false))
