use Rattle.std.proofs.Common.{◌≡◌, [], replicate}
use Rattle.unroll_cnf.proofs.instant.no_words.Given as goal

abbrev pub invariant-loop-edge : goal.invariant-loop-edge
invariant-loop-edge l = l.words ≡ replicate l._edge []
