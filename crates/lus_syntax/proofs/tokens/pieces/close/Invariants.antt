use Rattle.std.proofs.Common.{◌≡◌, ℕ, ◌<◌, drop, false}
use Rattle.lus_syntax.specs.Cuts.{closes_block}
use Rattle.lus_syntax.proofs.tokens.pieces.close.Given as goal

abbrev pub invariant-loop-len : goal.invariant-loop-len
invariant-loop-len l = (k : ℕ) → k < l.len → closes_block (drop k l.rest) ≡ false
