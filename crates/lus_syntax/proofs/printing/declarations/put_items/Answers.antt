use Rattle.std.proofs.Common.{refl, arith}
use Rattle.lus_syntax.specs.Phrases.{item, items}
use Rattle.lus_syntax.proofs.Writing.{step, grows}
use Rattle.lus_syntax.proofs.printing.declarations.put_items.Goals as goal

pub loop-item-preserved : goal.loop-item-preserved
loop-item-preserved c = record {
  ahead = step item items items (λ x xs. refl) _ _ _ c.args.items.now c.loop-item.item-index c.item-item.result (omega (arith, c.loop-item-test.true)) c.item-item.is c.in_ok-put_item.ensures.ok c.loop-item.invariant.ahead;
  kept = grows _ _ _ (item c.item-item.result) c.loop-item.invariant.kept c.in_ok-put_item.ensures.ok;
}
