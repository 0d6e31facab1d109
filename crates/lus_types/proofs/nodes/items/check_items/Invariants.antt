use Rattle.std.proofs.Common.{◌≡◌, [], drop}
use Rattle.lus_types.specs.Checking.{fault_in}
use Rattle.lus_types.specs.Views.{scope_seen, recursions, variables_seen}
use Rattle.lus_types.specs.Walk as walk
use Rattle.lus_types.proofs.nodes.items.check_items.Given as goal

abbrev pub invariant-loop-item : goal.invariant-loop-item
invariant-loop-item l =
    fault_in (recursions l.scope.cycles.now) (walk.items (scope_seen l.scope) (variables_seen l.variables) [] l.items) ≡ fault_in (recursions l.scope.cycles.now) (walk.items (scope_seen l.scope) (variables_seen l.variables) l.defined (drop l.item-index l.items))
