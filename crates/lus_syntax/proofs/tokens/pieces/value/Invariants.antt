use Rattle.std.proofs.Common.{◌≡◌, drop}
use Rattle.lus_syntax.specs.Words.{value_from}
use Rattle.lus_syntax.proofs.tokens.pieces.value.Given as goal

abbrev pub invariant-loop-byte : goal.invariant-loop-byte
invariant-loop-byte l = value_from l.sum (drop l.byte-index l.digits) ≡ value_from 0 l.digits
