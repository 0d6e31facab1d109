use Rattle.std.proofs.Common.{rules}
use Rattle.unroll_cnf.proofs.Instants.{never_full, few_vars}
use Rattle.unroll_cnf.proofs.unrolling.unrolled.Goals as goal

pub unreachable-requires : goal.unreachable-requires
unreachable-requires c = never_full c.args.parts.now c.requires.valid c.args.order.now c.requires.order c.args.k _ c.requires.few c.in_ok-maker.ensures (c.instants.ensures.full (search rules))

pub returns-in-Ok-clause-vars : goal.returns-in-Ok-clause-vars
returns-in-Ok-clause-vars c = few_vars c.args.parts.now c.requires.valid c.args.order.now c.requires.order c.args.k _ _ _ c.in_ok-maker.ensures c.in-Ok.ensures.made
