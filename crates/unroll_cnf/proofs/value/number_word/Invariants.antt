use Rattle.unroll_cnf.proofs.Exclusions.{NumberSoFar}
use Rattle.unroll_cnf.proofs.value.number_word.Given as goal

abbrev pub invariant-loop-bit : goal.invariant-loop-bit
invariant-loop-bit l = NumberSoFar l.bits l.number l._bit l.rest l.word
