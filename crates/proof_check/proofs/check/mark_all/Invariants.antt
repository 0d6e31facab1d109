use Rattle.std.proofs.Common.{◌≡◌, take}
use Rattle.cnf_form.specs.Marks.{marked, marks_of}
use Rattle.proof_check.proofs.check.mark_all.Given as goal

abbrev pub invariant-loop-lit : goal.invariant-loop-lit
invariant-loop-lit l = marked l.marks ≡ marks_of (take l.lit-index l.lits)
