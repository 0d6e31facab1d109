use Rattle.std.proofs.Common.{◌≡◌, ◌++◌, take}
use Rattle.dep_paths.specs.Duties.{elementary_conditions}
use Rattle.dep_paths.proofs.duties.elementary.add_elementary_conditions.Given as goal

abbrev pub invariant-loop-place : goal.invariant-loop-place
invariant-loop-place l = l.duties ≡ l.fn.duties ++ elementary_conditions l.edges (take l.place l.paths)
