use Rattle.std.proofs.Common.{rules}
use Rattle.cnf_form.specs.Limits.{most_vars}
use Rattle.bit_blast.specs.Circuit.{no}
use Rattle.bit_blast.proofs.Circuits.{extends_then}
use Rattle.bit_blast.proofs.Loops.{sum_step, sum_full, sum_end}
use Rattle.bit_blast.proofs.Laws.{sum_below, sum_size, sum_takes}
use Rattle.bit_blast.proofs.maker.Maker.sum.Goals as goal

pub returns-in_err-bit-clause-full : goal.returns-in_err-bit-clause-full
returns-in_err-bit-clause-full c = λ e. sum_full most_vars (no 0) c.loop-i.invariant c.loop-i-test.true c.requires.size (c.in_err-bit.ensures.full (search rules))

pub returns-in_err-bit-clause-kept : goal.returns-in_err-bit-clause-kept
returns-in_err-bit-clause-kept c = extends_then c.loop-i.invariant.rest.extends c.in_err-bit.ensures.kept

pub returns-in_err-add-clause-kept : goal.returns-in_err-add-clause-kept
returns-in_err-add-clause-kept c = extends_then c.loop-i.invariant.rest.extends c.in_ok-bit.ensures.kept

pub loop-i-preserved : goal.loop-i-preserved
loop-i-preserved c =
    sum_step (no 0) _ c.in_ok-bit.bit c.in_ok-bit.next _ c.loop-i.invariant c.loop-i-test.true c.requires.size c.in_ok-bit.ensures.made c.in_ok-bit.ensures.kept c.in_ok-bit.ensures.sum c.in_ok-bit.ensures.carry c.in_ok-add.ensures.ok

pub returns-clause-below : goal.returns-clause-below
returns-clause-below c = sum_below _ _ _ _ _ _ (sum_end c.loop-i.invariant c.loop-i-test.false) c.requires.size

pub returns-clause-length : goal.returns-clause-length
returns-clause-length c = sum_size _ _ _ _ _ _ (sum_end c.loop-i.invariant c.loop-i-test.false) c.requires.size

pub returns-clause-cost : goal.returns-clause-cost
returns-clause-cost c = sum_takes _ _ _ _ _ _ (sum_end c.loop-i.invariant c.loop-i-test.false) c.requires.size
