use Rattle.std.proofs.Common.{arith}
use Rattle.proof_check.proofs.Tables.{reads_empty, table_more}
use Rattle.proof_check.proofs.table.start_table.Goals as goal

pub loop-i-init : goal.loop-i-init
loop-i-init c = reads_empty _ c.new-table.ensures.empty

pub loop-i-preserved : goal.loop-i-preserved
loop-i-preserved c = table_more _ _ _ _ _ (omega arith) c.index-clauses-i.is c.in-Ok.ensures.updates.0 c.loop-i.invariant
