use Rattle.unroll_cnf.proofs.Exclusions.{Excluding}
use Rattle.unroll_cnf.proofs.input.exclude.Given as goal

abbrev pub invariant-loop-number : goal.invariant-loop-number
invariant-loop-number l = Excluding l.fn.maker l.maker l.word l.from l.number l.to
