use Rattle.std.proofs.Common.{◌≡◌, ◌≤◌, ◌++◌, map, take, length}
use Rattle.dep_paths.specs.Levels.{pushed}
use Rattle.dep_paths.proofs.longer.add_copies.Given as goal
use Rattle.dep_paths.specs.declared.limits.TheConstants.{MOST_PATHS}

abbrev pub invariant-loop-step : goal.invariant-loop-step
invariant-loop-step l = record {
  so_far : l.next ≡ l.initial.next ++ map (pushed l.path) (take l.step-index l.readers);
  few : length l.next ≤ MOST_PATHS;
}
