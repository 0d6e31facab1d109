use Rattle.unroll_cnf.proofs.Exclusions.{ExcludingSoFar}
use Rattle.unroll_cnf.proofs.input.excluding.Given as goal

abbrev pub invariant-loop-lit : goal.invariant-loop-lit
invariant-loop-lit l = ExcludingSoFar l.word l.number l.lit-index l.rest l.lits
