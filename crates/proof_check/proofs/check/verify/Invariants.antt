use Rattle.std.proofs.Common.{◌≡◌, ◌+◌, drop}
use Rattle.proof_check.specs.Check.{first_refusal, refusal}
use Rattle.proof_check.specs.Table.{state}
use Rattle.proof_check.proofs.check.verify.Given as goal

abbrev pub invariant-loop-i : goal.invariant-loop-i
invariant-loop-i l = first_refusal l.formula.clauses l.steps ≡ refusal (l.i + 1) (state l.table l.last) (drop l.i l.steps)
