use Rattle.std.proofs.Common.{◌≡◌, take}
use Rattle.proof_check.specs.Check.{numbered}
use Rattle.proof_check.specs.Table.{reads}
use Rattle.proof_check.proofs.table.start_table.Given as goal

abbrev pub invariant-loop-i : goal.invariant-loop-i
invariant-loop-i l = reads l.table ≡ numbered (take l.i l.clauses)
