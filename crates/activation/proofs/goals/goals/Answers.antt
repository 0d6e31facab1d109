-- The next obligation has its node.
use Rattle.std.proofs.Common.{◌+◌, ℕ, List, Option, sym, subst}
use Rattle.activation.specs.Growing.{AreGoalsBelow}
use Rattle.activation.proofs.Trees.{more_goals}
use Rattle.activation.proofs.goals.goals.Goals as goal

pub loop-duty-preserved : goal.loop-duty-preserved
loop-duty-preserved c =
    let a = c.args in
    let more = more_goals _ _ _ a.paths.now a.duties.now _ _ _ c.loop-duty-test.true c.goal_of.ensures.stays c.in_ok-goal_of.ensures.goal c.loop-duty.invariant in
    subst (λ (goals : List (Option ℕ)). AreGoalsBelow (c.loop-duty.duty-index + 1) c.goal_of.new.tree a.paths.now a.duties.now goals) (sym c.in_ok-add.ensures.ok) more
