use Rattle.std.proofs.Common.{◌≡◌, ◌<◌, ◌≤◌, ◌/◌, ℕ, length, ◌||◌}
use Rattle.cov_base.specs.BitRow.{bit_of}
use Rattle.cov_base.proofs.bits.join.Given as goal

abbrev pub invariant-loop-at : goal.invariant-loop-at
invariant-loop-at l =
    record {
      len : length l.words ≡ length l.initial.words;
      joined : (k : ℕ) → k / 64 < l.at → bit_of l.words k ≡ (bit_of l.initial.words k || bit_of l.others k);
      left : (k : ℕ) → l.at ≤ k / 64 → bit_of l.words k ≡ bit_of l.initial.words k;
    }
