use Rattle.std.proofs.Common.{◌≡◌, drop}
use Rattle.cnf_form.specs.Marks.{marked}
use Rattle.proof_check.specs.Check.{hints_fault}
use Rattle.proof_check.specs.Table.{reads}
use Rattle.proof_check.proofs.hints.follow.Given as goal

abbrev pub invariant-loop-i : goal.invariant-loop-i
invariant-loop-i l = hints_fault (reads l.table) (marked l.initial.marks) l.hints ≡ hints_fault (reads l.table) (marked l.marks) (drop l.i l.hints)
