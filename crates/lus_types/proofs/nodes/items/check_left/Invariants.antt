use Rattle.std.proofs.Common.{◌≡◌, ◌++◌, take, drop}
use Rattle.lus_types.specs.Checking.{fault_in}
use Rattle.lus_types.specs.Names.{spot_names}
use Rattle.lus_types.specs.Views.{recursions, variables_seen}
use Rattle.lus_types.specs.Walk as walk
use Rattle.lus_types.proofs.nodes.items.check_left.Given as goal

abbrev pub invariant-loop-name : goal.invariant-loop-name
invariant-loop-name l =
    (l.tys ≡ walk.left_types (variables_seen l.variables) (take l.name-index l.left))
    × (l.defined ≡ l.initial.defined ++ spot_names (take l.name-index l.left))
    × (fault_in (recursions l.scope.cycles.now) (walk.left_names (variables_seen l.variables) l.initial.defined l.left) ≡ fault_in (recursions l.scope.cycles.now) (walk.left_names (variables_seen l.variables) l.defined (drop l.name-index l.left)))
