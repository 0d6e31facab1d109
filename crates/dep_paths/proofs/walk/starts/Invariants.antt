use Rattle.std.proofs.Common.{◌≡◌, ◌≤◌, length, map, take}
use Rattle.std.specs.List.{filter}
use Rattle.dep_paths.specs.Levels.{start_path, is_near}
use Rattle.dep_paths.proofs.walk.starts.Given as goal
use Rattle.dep_paths.specs.declared.limits.TheConstants.{MOST_PATHS}

abbrev pub invariant-loop-input : goal.invariant-loop-input
invariant-loop-input l = record {
  so_far : l.paths ≡ map start_path (filter (is_near l.near l.room) (take l.input-index l.inputs));
  few : length l.paths ≤ MOST_PATHS;
}
