use Rattle.std.proofs.Common.{arith}
use Rattle.lus_types.specs.Calls.{called_in}
use Rattle.lus_types.specs.Views.{globals_seen}
use Rattle.lus_types.proofs.CallRows.{next_part}
use Rattle.lus_types.proofs.calls.callees.add_from_items.Goals as goal

pub loop-item-preserved : goal.loop-item-preserved
loop-item-preserved c =
    next_part called_in (globals_seen c.args.names.now) c.args.items.now c.loop-item.item-index c.item-item.result c.args.row.now c.loop-item.row c.add_from_item.new.row (omega arith) c.item-item.is c.loop-item.invariant c.in_ok-add_from_item.ensures.ok
