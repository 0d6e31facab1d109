use Rattle.std.proofs.Common.{[], ◌∷◌, cond, map, arith}
use Rattle.std.specs.List.{filter, range_with_len}
use Rattle.std.proofs.lemmas.List.FromFn.{filter_of_map_range_with_len_more}
use Rattle.dep_paths.specs.Conditions.{is_condition, port_at}
use Rattle.dep_paths.proofs.Numbering.{added}
use Rattle.dep_paths.proofs.condition_list.add_conditions.Goals as goal

pub loop-port-preserved : goal.loop-port-preserved
loop-port-preserved c =
    let edges = c.args.net.now.edges in
    let port = c.loop-port.port in
    let test = is_condition edges in
    added _ _ _ (filter test (map (port_at c.args.edge) (range_with_len 0 port))) (cond (test (port_at c.args.edge port)) (port_at c.args.edge port ∷ []) []) _
    c.loop-port.invariant c.in_ok-add_condition.ensures (filter_of_map_range_with_len_more test (port_at c.args.edge) 0 port port (omega arith))
