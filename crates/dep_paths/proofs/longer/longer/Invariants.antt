use Rattle.std.proofs.Common.{◌≡◌, ◌≤◌, ◌++◌, length, reverse, vec_len}
use Rattle.dep_paths.specs.Levels.{row_at, longer_paths}
use Rattle.dep_paths.proofs.longer.longer.Given as goal
use Rattle.dep_paths.specs.declared.limits.TheConstants.{MOST_PATHS}

-- what there is and what is to come are the whole
abbrev pub invariant-loop-path : goal.invariant-loop-path
invariant-loop-path l = record {
  whole : l.next ++ longer_paths (row_at l.rows) (reverse l.rest.items) ≡ longer_paths (row_at l.rows) l.fn.level;
  few : length l.next ≤ MOST_PATHS;
}

abbrev pub decreases-loop-path : goal.decreases-loop-path
decreases-loop-path l = vec_len l.rest
