use Rattle.std.proofs.Common.{◌+◌, ◌*◌}
use Rattle.node_expand.specs.Law.{program_in}
use Rattle.node_expand.specs.Making.{callees_at, node_of, program_of}
use Rattle.node_expand.proofs.InstancesMade.{CallsLeft, ItemsLeft}
use Rattle.node_expand.proofs.instances.+instances.Given as goal

abbrev pub decreases-make_instance : goal.decreases-make_instance
decreases-make_instance l = 4 * l.depth

abbrev pub decreases-make_instances : goal.decreases-make_instances
decreases-make_instances l = 4 * l.depth + 1

abbrev pub decreases-make_item : goal.decreases-make_item
decreases-make_item l = 4 * l.below + 2

abbrev pub decreases-make_items : goal.decreases-make_items
decreases-make_items l = 4 * l.below + 3

abbrev pub invariant-make_instances-loop-i : goal.invariant-make_instances-loop-i
invariant-make_instances-loop-i l = CallsLeft (program_in l.typed) l.depth (callees_at l.typed l.tables) l.root l.asserted l.calls l.initial.draft l.i l.draft

abbrev pub invariant-make_items-loop-i : goal.invariant-make_items-loop-i
invariant-make_items-loop-i l = ItemsLeft (program_of l.scope) (node_of l.scope) l.below (callees_at l.scope.typed.now l.scope.tables.now) l.scope.places.now l.prefix l.asserted l.items l.initial.draft l.i l.assertions l.draft
