use Rattle.std.proofs.Common.{◌≡◌, drop}
use Rattle.proof_check.specs.Check.{removed}
use Rattle.proof_check.specs.Table.{reads}
use Rattle.proof_check.proofs.table.take_out.Given as goal

abbrev pub invariant-loop-id : goal.invariant-loop-id
invariant-loop-id l = removed l.ids (reads l.initial.table) ≡ removed (drop l.id-index l.ids) (reads l.table)
