use Rattle.std.proofs.Common.{ap, arith, length, nat_lt}
use Rattle.std.proofs.lemmas.Bool.{le-ltb}
use Rattle.score_table.proofs.Watched.{told_lacking, told_observed}
use Rattle.score_table.proofs.watch.Watch.observes.Goals as goal

pub returns-then-condition-conditions : goal.returns-then-condition-conditions
returns-then-condition-conditions c = λ parts frames watches some.
    let size = ap length c.conditions.ensures in
    let within = c.if-condition-conditions.true in
    told_observed parts c.args.plan.now frames c.args.self.now c.args.condition c.args.value c.observed.result c.observed.ensures watches some (omega (arith, size, within))

pub returns-else-condition-conditions : goal.returns-else-condition-conditions
returns-else-condition-conditions c = λ parts frames watches some.
    let size = ap length c.conditions.ensures in
    let past = c.if-condition-conditions.false in
    told_lacking parts c.args.plan.now frames c.args.condition c.args.value (nat_lt c.args.condition (length c.conditions.result.now)) (omega (arith, size, past)) (le-ltb c.args.condition (length c.conditions.result.now) (omega (arith, past)))
