use Rattle.std.proofs.Common.{◌≡◌, ◌≤◌, ◌++◌, length, take}
use Rattle.std.specs.List.{filter}
use Rattle.dep_paths.specs.Levels.{ends_at}
use Rattle.dep_paths.proofs.longer.add_complete.Given as goal
use Rattle.dep_paths.specs.declared.limits.TheConstants.{MOST_PATHS}

abbrev pub invariant-loop-path : goal.invariant-loop-path
invariant-loop-path l = record {
  so_far : l.found ≡ l.initial.found ++ filter (ends_at l.near) (take l.path-index l.level);
  few : length l.found ≤ MOST_PATHS;
}
