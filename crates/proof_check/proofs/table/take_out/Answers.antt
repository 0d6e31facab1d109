use Rattle.std.proofs.Common.{arith, rules, sym}
use Rattle.proof_check.proofs.Tables.{removed_more, removed_none}
use Rattle.proof_check.proofs.table.take_out.Goals as goal

pub loop-id-preserved : goal.loop-id-preserved
loop-id-preserved c =
    removed_more c.loop-id.table c.remove.new.self _ c.args.ids.now c.loop-id.id-index c.from.result c.in-Some.field-0 (omega arith) (search rules) (sym c.in-Some.ensures.value) c.in-Some.ensures.updates.0 c.loop-id.invariant

pub returns-in-None-clause-err : goal.returns-in-None-clause-err
returns-in-None-clause-err c =
    removed_none c.loop-id.table _ c.args.ids.now c.loop-id.id-index c.from.result (omega arith) (search rules) (sym c.in-None.ensures.value) c.loop-id.invariant
