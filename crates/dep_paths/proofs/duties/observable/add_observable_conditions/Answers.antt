use Rattle.dep_paths.specs.Duties.{condition_duties, observable_conditions}
use Rattle.dep_paths.proofs.ConditionLists.{numbers_more}
use Rattle.dep_paths.proofs.Numbering.{added}
use Rattle.dep_paths.proofs.duties.observable.add_observable_conditions.Goals as goal

pub loop-condition-preserved : goal.loop-condition-preserved
loop-condition-preserved c =
    let place = c.loop-condition.condition in
    added _ _ _ (observable_conditions place) (condition_duties place) _ c.loop-condition.invariant c.in_ok-add_condition.ensures (numbers_more condition_duties place)
