use Rattle.std.proofs.Common.{rules}
use Rattle.cnf_form.specs.Limits.{most_vars}
use Rattle.unroll_cnf.specs.Made.{word_at}
use Rattle.goal_cnf.proofs.Admitting.{adm_full}
use Rattle.goal_cnf.proofs.admitted.admitted.Goals as goal

pub bit-requires : goal.bit-requires
bit-requires c = (c.requires.bits c.loop-e.e-index _ c.loop-e-test.true).bit

pub returns-in_err-admitted-clause-full : goal.returns-in_err-admitted-clause-full
returns-in_err-admitted-clause-full c = λ e.
    adm_full (word_at c.args.un.now.words c.args.t) c.args.adm c.args.asserts.now c.args.maker.now c.loop-e.maker c.loop-e.e-index most_vars c.loop-e.admitted (record { 0 = 0 }) c.loop-e.invariant c.loop-e-test.true (c.in_err-admitted.ensures.full (search rules))
