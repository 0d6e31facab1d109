use Rattle.std.proofs.Common.{◌≡◌, ℕ, ◌-◌, ◌<◌, ◌≤◌, length, get_or, true}
use Rattle.std.specs.Char.{is_ascii_digit}
use Rattle.lus_syntax.proofs.tokens.pieces.digits_len.Given as goal

abbrev pub invariant-loop-len : goal.invariant-loop-len
invariant-loop-len l = record { some : 0 < l.len; within : l.len ≤ length l.rest; parts : (k : ℕ) → 0 < k → k < l.len → is_ascii_digit (get_or l.rest k 0) ≡ true }

abbrev pub decreases-loop-len : goal.decreases-loop-len
decreases-loop-len l = length l.rest - l.len
