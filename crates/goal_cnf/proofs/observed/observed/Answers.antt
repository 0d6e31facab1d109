use Rattle.std.proofs.Common.{rules}
use Rattle.cnf_form.specs.Limits.{most_vars}
use Rattle.goal_cnf.proofs.Tagging.{outputs_full}
use Rattle.goal_cnf.proofs.observed.observed.Goals as goal

pub returns-in_err-met-clause-full : goal.returns-in_err-met-clause-full
returns-in_err-met-clause-full c = λ e.
    outputs_full c.args.tags.now c.args.outputs.now c.args.maker.now c.loop-e.maker c.loop-e.e-index most_vars c.loop-e.met (record { 0 = 0 }) c.loop-e.invariant c.loop-e-test.true (c.in_err-met.ensures.full (search rules))
