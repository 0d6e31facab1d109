use Rattle.std.proofs.Common.{◌≡◌, ◌≤◌, ◌+◌, length}
use Rattle.dep_paths.specs.Levels.{level, complete_below}
use Rattle.dep_paths.proofs.walk.levels.Given as goal
use Rattle.dep_paths.specs.declared.limits.TheConstants.{MOST_PATHS}

abbrev pub invariant-loop-steps : goal.invariant-loop-steps
invariant-loop-steps l = record {
  level_is : l.level ≡ level l.net l.near l.n l.steps;
  found_are : l.found ≡ complete_below l.net l.near l.n (l.steps + 1);
  few : length l.found ≤ MOST_PATHS;
}
