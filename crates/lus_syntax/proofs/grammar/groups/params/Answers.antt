use Rattle.std.proofs.Common.{rules, ap, length, arith}
use Rattle.lus_syntax.proofs.Readers.{fails, pass, pass_first, pass_same, pass_token, takes_shorter}
use Rattle.lus_syntax.proofs.NamesAndGroups.{group_opens}
use Rattle.lus_syntax.proofs.Params.{closed_same, tail_part, tail_leads, params_start, params_on, params_next, params_last, params_ended, params_closed}
use Rattle.lus_syntax.proofs.grammar.groups.params.Goals as goal

pub returns-in_err-first : goal.returns-in_err-first
returns-in_err-first c = fails (pass (pass_same (closed_same c.args.text.now)) (pass_first (tail_part c.args.text.now) (tail_leads c.args.text.now))) (search rules) c.in_err-first.ensures

pub loop-more-init : goal.loop-more-init
loop-more-init c = params_start c.args.text.now c.in_ok-first.ensures (search rules)

pub returns-in-Some-accept : goal.returns-in-Some-accept
returns-in-Some-accept c = (params_ended c.args.text.now c.loop-more.invariant c.in-Some.ensures.whole c.in-Some.ensures.kind c.in-Some-accept.ensures.whole c.in-Some-accept.ensures.kind, tt)

pub returns-in_err-next : goal.returns-in_err-next
returns-in_err-next c =
    fails (pass c.loop-more.invariant.stuck (pass (params_on c.args.text.now c.in-Some.ensures.whole c.in-Some.ensures.kind c.in_default-accept.ensures.whole) (pass_first (tail_part c.args.text.now) (tail_leads c.args.text.now)))) (search rules) c.in_err-next.ensures

pub loop-more-preserved : goal.loop-more-preserved
loop-more-preserved c = params_next c.args.text.now c.loop-more.invariant c.in-Some.ensures.whole c.in-Some.ensures.kind c.in_default-accept.ensures.whole c.in_ok-next.ensures (search rules)

pub loop-more-smaller : goal.loop-more-smaller
loop-more-smaller c = omega (arith, ap length c.in-Some.ensures.whole, takes_shorter (group_opens c.args.text.now) c.in_ok-next.ensures.0)

pub returns-in_err-behind : goal.returns-in_err-behind
returns-in_err-behind c = fails (pass c.loop-more.invariant.stuck (pass (params_last c.args.text.now c.in_default.ensures.whole) pass_token)) (search rules) c.in_err-behind.ensures

pub returns : goal.returns
returns c = (params_closed c.args.text.now c.loop-more.invariant c.in_ok-behind.ensures.0, tt)
