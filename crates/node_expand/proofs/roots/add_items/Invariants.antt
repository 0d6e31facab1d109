use Rattle.std.proofs.Common.{◌≡◌, drop}
use Rattle.node_expand.specs.Known as spec
use Rattle.node_expand.specs.NameTables.{with_entries}
use Rattle.node_expand.proofs.roots.add_items.Given as goal

abbrev pub invariant-loop-i : goal.invariant-loop-i
invariant-loop-i l = with_entries l.places (spec.root_places l.sizes l.next (drop l.i l.items) (drop l.i l.outlines)) ≡ with_entries l.initial.places (spec.root_places l.sizes l.start l.items l.outlines)
