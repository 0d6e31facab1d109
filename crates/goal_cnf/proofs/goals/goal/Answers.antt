use Rattle.std.proofs.Common.{get_or, refl, subst}
use Rattle.op_network.specs.Valid.{IsValid}
use Rattle.dep_paths.specs.declared.path.Obligation.TheVariants.{Bc}
use Rattle.goal_cnf.proofs.GoalMaking.{streams_are}
use Rattle.goal_cnf.proofs.Planning.{duty_at, duty_listed, goal_at, plan_there}
use Rattle.goal_cnf.proofs.goals.goal.Goals as goal

pub goal_of-requires-clause-streams : goal.goal_of-requires-clause-streams
goal_of-requires-clause-streams c = streams_are c.args.net.now.network c.args.net.now.sequence c.args.un.now c.requires.unrolled (subst IsValid c.network.ensures c.parts-parts.ensures.valid) c.requires.words

pub goal_of-requires-clause-plan : goal.goal_of-requires-clause-plan
goal_of-requires-clause-plan c = plan_there c.args.net.now.network (subst IsValid c.network.ensures c.parts-parts.ensures.valid) c.args.plan.now c.requires.plan c.length-length.ensures.limits

pub goal_of-requires-clause-listed : goal.goal_of-requires-clause-listed
goal_of-requires-clause-listed c =
    duty_listed c.args.net.now.network (subst IsValid c.network.ensures c.parts-parts.ensures.valid) c.args.plan.now c.requires.plan c.args.o (get_or c.duties.result.now c.args.o (Bc 0))
    (duty_at c.args.plan.now c.duties.result.now c.args.o (get_or c.duties.result.now c.args.o (Bc 0)) (Bc 0) c.duties.ensures c.requires.place refl)

pub returns-clause-goal : goal.returns-clause-goal
returns-clause-goal c =
    goal_at c.args.net.now.network c.args.net.now.sequence c.args.plan.now c.args.o c.args.un.now.instants (get_or c.duties.result.now c.args.o (Bc 0)) c.goal_of.result
    (duty_at c.args.plan.now c.duties.result.now c.args.o (get_or c.duties.result.now c.args.o (Bc 0)) (Bc 0) c.duties.ensures c.requires.place refl)
    c.goal_of.ensures.goal
