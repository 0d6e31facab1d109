use Rattle.std.proofs.Common.{◌≡◌, drop}
use Rattle.cnf_form.specs.Marks.{marked}
use Rattle.proof_check.specs.Check.{open_lits}
use Rattle.proof_check.proofs.hints.is_closed.Given as goal

abbrev pub invariant-loop-lit : goal.invariant-loop-lit
invariant-loop-lit l = open_lits (marked l.marks) l.lits ≡ open_lits (marked l.marks) (drop l.lit-index l.lits)
