use Rattle.std.proofs.Common.{◌≡◌, ◌++◌, map}
use Rattle.std.specs.List.{filter, range_with_len}
use Rattle.dep_paths.specs.Conditions.{is_condition, port_at}
use Rattle.dep_paths.proofs.condition_list.add_conditions.Given as goal

abbrev pub invariant-loop-port : goal.invariant-loop-port
invariant-loop-port l = l.found ≡ l.fn.found ++ filter (is_condition l.net.edges) (map (port_at l.edge) (range_with_len 0 l.port))
