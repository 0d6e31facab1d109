use Rattle.std.proofs.Common.{◌≡◌, ◌≤◌, ◌*◌, count_by}
use Rattle.cov_base.specs.BitRow.{row_of}
use Rattle.cov_base.proofs.bits.ones_in.Given as goal

abbrev pub invariant-loop-word : goal.invariant-loop-word
invariant-loop-word l =
    record {
      counted : l.n ≡ count_by (λ bit. bit) (row_of l.words (64 * l.word-index));
      within : l.n ≤ 64 * l.word-index;
    }
