use Rattle.std.proofs.Common.{◌≡◌}
use Rattle.bit_blast.specs.Words.{nothing}
use Rattle.bit_blast.proofs.word.nothing.Given as goal

abbrev pub invariant-loop-bit : goal.invariant-loop-bit
invariant-loop-bit l = l.word ≡ nothing l._bit
