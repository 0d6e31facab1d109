use Rattle.std.proofs.Common.{◌≡◌, ◌++◌, take}
use Rattle.dep_paths.specs.Duties.{multiple_conditions}
use Rattle.dep_paths.proofs.duties.multiple.add_multiple_conditions.Given as goal

abbrev pub invariant-loop-place : goal.invariant-loop-place
invariant-loop-place l = l.duties ≡ l.fn.duties ++ multiple_conditions l.edges (take l.place l.paths)
