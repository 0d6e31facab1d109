use Rattle.std.proofs.Common.{◌≡◌, drop}
use Rattle.lus_syntax.specs.Phrases.{Extends, written, items}
use Rattle.lus_syntax.proofs.printing.declarations.put_items.Given as goal

abbrev pub invariant-loop-item : goal.invariant-loop-item
invariant-loop-item l = record {
  ahead : written l.out (items (drop l.item-index l.items)) ≡ written l.fn.out (items l.items);
  kept : Extends l.fn.out l.out;
}
