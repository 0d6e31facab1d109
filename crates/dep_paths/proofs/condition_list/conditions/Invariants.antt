use Rattle.std.proofs.Common.{◌≡◌}
use Rattle.std.specs.List.{filter, flat_map, range_with_len}
use Rattle.dep_paths.specs.Conditions.{is_condition, ports_at}
use Rattle.dep_paths.proofs.condition_list.conditions.Given as goal

abbrev pub invariant-loop-e : goal.invariant-loop-e
invariant-loop-e l = l.found ≡ filter (is_condition l.net.edges) (flat_map (ports_at l.net.edges) (range_with_len 0 l.e))
