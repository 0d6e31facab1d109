use Rattle.std.proofs.Common.{◌≡◌, map, take, drop}
use Rattle.lus_types.specs.Checking.{fault_in}
use Rattle.lus_types.specs.Walk as walk
use Rattle.lus_types.specs.Views.{scope_seen, recursions}
use Rattle.lus_types.proofs.expressions.+expression.Given as goal

abbrev pub invariant-check_args-loop-arg : goal.invariant-check_args-loop-arg
invariant-check_args-loop-arg l =
    (l.tys ≡ map (walk.type_of (scope_seen l.scope)) (take l.arg-index l.args))
    × (fault_in (recursions l.scope.cycles.now) (walk.arguments (scope_seen l.scope) l.args) ≡ fault_in (recursions l.scope.cycles.now) (walk.arguments (scope_seen l.scope) (drop l.arg-index l.args)))
