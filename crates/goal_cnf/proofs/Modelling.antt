-- The law of the formula of a goal, as the code of `decode` uses it.
use Rattle.goal_cnf.specs.Laws.{ModelsMeetGoals}
use Rattle.goal_cnf.proofs.Pins.{plan_fits}
use Rattle.goal_cnf.proofs.Reach.{models_meet}

-- each assignment that satisfies the formula of a goal meets it
pub models_meet_goals : ModelsMeetGoals
models_meet_goals parts order plan o k valid sequence is listed v s =
    models_meet parts valid order sequence plan o (plan_fits parts plan o is listed) k v s
