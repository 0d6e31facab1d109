use Rattle.std.proofs.Common.{◌++◌, ap, sym, ◌∙◌}
use Rattle.dep_paths.specs.Conditions.{is_condition, ports_at}
use Rattle.std.specs.List.{filter}
use Rattle.dep_paths.proofs.ConditionLists.{filter_more}
use Rattle.dep_paths.proofs.condition_list.conditions.Goals as goal

pub loop-e-preserved : goal.loop-e-preserved
loop-e-preserved c =
    let edges = c.args.net.now.edges in
    c.in_ok-add_conditions.ensures
    ∙ ap (λ found. found ++ filter (is_condition edges) (ports_at edges c.loop-e.e)) c.loop-e.invariant
    ∙ sym (filter_more (is_condition edges) (ports_at edges) c.loop-e.e)
