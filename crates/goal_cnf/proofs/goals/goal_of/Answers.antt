use Rattle.std.proofs.Common.{◌≡◌, ◌∙◌, [], ap, arith, rules}
use Rattle.cnf_form.specs.Shape.{Shape}
use Rattle.bit_blast.specs.Circuit.{Require, with_entry}
use Rattle.goal_cnf.proofs.GoalMaking.{clause_inside, few_vars, formula_is, hits_are, last_fits, never_full}
use Rattle.goal_cnf.proofs.goals.goal_of.Goals as goal

pub require-requires-clause-inside : goal.require-requires-clause-inside
require-requires-clause-inside c = clause_inside c.args.un.now.instants c.hits.new.maker.vars c.in-Ok.hits c.in_ok-clause-in-Ok.clause c.in-Ok.ensures.lits (c.in_ok-clause-in-Ok.ensures ∙ c.as_slice.ensures)

pub require-requires-clause-few : goal.require-requires-clause-few
require-requires-clause-few c =
    last_fits c.args.net.now.network c.args.net.now.sequence c.args.un.now c.requires.unrolled c.args.plan.now c.args.duty c.in_ok-maker.maker c.hits.new.maker c.in-Ok.hits (c.in_ok-maker.ensures ∙ c.maker.ensures) c.in-Ok.ensures.made
    c.requires.streams.valid c.sequence-sequence.ensures.order c.requires.limits c.requires.size c.requires.room

pub unreachable-requires : goal.unreachable-requires
unreachable-requires c =
    never_full c.args.net.now.network c.args.net.now.sequence c.args.un.now c.requires.unrolled c.args.plan.now c.args.duty c.in_ok-maker.maker c.hits.new.maker [] (c.in_ok-maker.ensures ∙ c.maker.ensures)
    c.requires.streams.valid c.sequence-sequence.ensures.order c.requires.limits c.requires.size (c.hits.ensures.full (search rules))

pub returns-else-is_err-clause-goal : goal.returns-else-is_err-clause-goal
returns-else-is_err-clause-goal c =
    let e : c.require.new.self ≡ with_entry c.hits.new.maker (Require c.in_ok-clause-in-Ok.clause) = search rules in
    record {
      formula = c.finish.ensures ∙ formula_is c.args.net.now.network c.args.net.now.sequence c.args.un.now c.requires.unrolled c.args.plan.now c.args.duty c.in_ok-maker.maker c.hits.new.maker c.in-Ok.hits (c.in_ok-maker.ensures ∙ c.maker.ensures) c.in-Ok.ensures.made
          c.require.new.self c.in_ok-clause-in-Ok.clause (c.in_ok-clause-in-Ok.ensures ∙ c.as_slice.ensures) e;
      hits = hits_are c.args.net.now.network c.args.net.now.sequence c.args.un.now c.requires.unrolled c.args.plan.now c.args.duty c.in_ok-maker.maker c.hits.new.maker c.in-Ok.hits (c.in_ok-maker.ensures ∙ c.maker.ensures) c.in-Ok.ensures.made;
    }

pub returns-else-is_err-clause-vars : goal.returns-else-is_err-clause-vars
returns-else-is_err-clause-vars c =
    let e : c.require.new.self ≡ with_entry c.hits.new.maker (Require c.in_ok-clause-in-Ok.clause) = search rules in
    omega (
      arith,
      ap (λ (z : Shape). z.vars) c.finish.ensures,
      ap (λ (z : Shape). z.vars) e,
      few_vars c.args.net.now.network c.args.net.now.sequence c.args.un.now c.requires.unrolled c.args.plan.now c.args.duty c.in_ok-maker.maker c.hits.new.maker c.in-Ok.hits (c.in_ok-maker.ensures ∙ c.maker.ensures) c.in-Ok.ensures.made
          c.requires.streams.valid c.sequence-sequence.ensures.order c.requires.limits,
    )
