use Rattle.std.proofs.Common.{◌≡◌, ◌≤◌, ◌+◌, ◌*◌, length, take}
use Rattle.std.specs.List.{enumerate_from, flat_map}
use Rattle.dep_paths.specs.Duties.{edges_on, pins_at}
use Rattle.dep_paths.proofs.duties.counts.pin_count.Given as goal

abbrev pub invariant-loop-step : goal.invariant-loop-step
invariant-loop-step l = record {
  so_far : l.count ≡ length (flat_map (pins_at l.edges) (enumerate_from 0 (take (l.step-index + 1) (edges_on l.path))));
  small : l.count ≤ 2 * (l.step-index + 1);
}
