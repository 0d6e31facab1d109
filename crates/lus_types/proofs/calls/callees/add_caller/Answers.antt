use Rattle.std.proofs.Common.{arith}
use Rattle.lus_types.proofs.CallRows.{adds_row}
use Rattle.lus_types.proofs.calls.callees.add_caller.Goals as goal

pub returns-clause-ok : goal.returns-clause-ok
returns-clause-ok c = adds_row c.args.caller c.args.place c.args.rows.now c.index-rows-place.result c.add.new.self (omega arith) c.in_ok-add.ensures.ok
