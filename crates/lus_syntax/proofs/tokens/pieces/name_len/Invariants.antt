use Rattle.std.proofs.Common.{◌≡◌, ℕ, ◌-◌, ◌<◌, ◌≤◌, length, get_or, true}
use Rattle.lus_syntax.specs.Words.{is_part}
use Rattle.lus_syntax.proofs.tokens.pieces.name_len.Given as goal

abbrev pub invariant-loop-len : goal.invariant-loop-len
invariant-loop-len l = record { some : 0 < l.len; within : l.len ≤ length l.rest; parts : (k : ℕ) → 0 < k → k < l.len → is_part (get_or l.rest k 0) ≡ true }

abbrev pub decreases-loop-len : goal.decreases-loop-len
decreases-loop-len l = length l.rest - l.len
