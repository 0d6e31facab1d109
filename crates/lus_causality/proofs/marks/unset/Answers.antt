use Rattle.std.proofs.Common.{length, arith}
use Rattle.lus_causality.proofs.Clearing.{all_unset}
use Rattle.lus_causality.proofs.marks.unset.Goals as goal

pub returns : goal.returns
returns c = all_unset (length c.args.marks.now) c.loop-place.place c.loop-place.marks (omega (arith, c.loop-place-test.false, c.len-place-end.ensures, c.loop-place.invariant.length_is)) c.loop-place.invariant
