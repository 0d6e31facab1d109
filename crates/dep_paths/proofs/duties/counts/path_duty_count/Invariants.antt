use Rattle.std.proofs.Common.{◌≡◌, ◌≤◌, ◌+◌, ◌*◌, length, take}
use Rattle.dep_paths.specs.Duties.{path_duties}
use Rattle.dep_paths.specs.declared.limits.TheConstants.{MOST_LENGTH}
use Rattle.dep_paths.proofs.duties.counts.path_duty_count.Given as goal

abbrev pub invariant-loop-path : goal.invariant-loop-path
invariant-loop-path l = record {
  so_far : l.count ≡ length (path_duties l.edges (take l.path-index l.paths));
  small : l.count ≤ (3 + 2 * MOST_LENGTH) * l.path-index;
}
