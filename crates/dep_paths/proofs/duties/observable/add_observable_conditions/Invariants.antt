use Rattle.std.proofs.Common.{◌≡◌, ◌++◌}
use Rattle.dep_paths.specs.Duties.{observable_conditions}
use Rattle.dep_paths.proofs.duties.observable.add_observable_conditions.Given as goal

abbrev pub invariant-loop-condition : goal.invariant-loop-condition
invariant-loop-condition l = l.duties ≡ l.fn.duties ++ observable_conditions l.condition
