use Rattle.std.proofs.Common.{arith}
use Rattle.lus_syntax.proofs.LongestTokens.{value_wide}
use Rattle.lus_syntax.proofs.tokens.pieces.value.Goals as goal

pub returns-in-None-checked_add : goal.returns-in-None-checked_add
returns-in-None-checked_add c = value_wide c.args.digits.now c.loop-byte.sum c.loop-byte.byte-index c.loop-byte-test.true c.loop-byte.invariant _ (omega (arith, c.in-Some.ensures, c.in-None-checked_add.ensures))

pub returns-in-None : goal.returns-in-None
returns-in-None c = value_wide c.args.digits.now c.loop-byte.sum c.loop-byte.byte-index c.loop-byte-test.true c.loop-byte.invariant _ (omega (arith, c.in-None.ensures))
