use Rattle.std.proofs.Common.{rules, ap, arith, length}
use Rattle.lus_syntax.specs.declared.token.TokenKind.TheVariants.{Sign}
use Rattle.lus_syntax.specs.declared.token.Symbol.TheVariants as sign
use Rattle.lus_syntax.proofs.Readers.{fails, pass, pass_same, pass_first, pass_second, pass_begun, leads_anywhere, many_part, begun_start, begun_next, begun_end, same_takes, takes_both, token_taken, token_opens, takes_shorter, kind_part}
use Rattle.lus_syntax.proofs.NamesAndGroups.{names_same, name_part, nexts}
use Rattle.lus_syntax.proofs.grammar.groups.names.Goals as goal

pub returns-in_err-first : goal.returns-in_err-first
returns-in_err-first c = fails (pass (pass_same (names_same c.args.text.now)) (pass_first (many_part (nexts c.args.text.now)) leads_anywhere)) (search rules) c.in_err-first.ensures

pub loop-more-init : goal.loop-more-init
loop-more-init c = begun_start c.in_ok-first.ensures (search rules)

pub loop-more-preserved : goal.loop-more-preserved
loop-more-preserved c = begun_next c.loop-more.invariant (takes_both (token_taken c.in-Some.ensures.whole c.in-Some.ensures.kind) c.in_ok-next.ensures.0, tt) (search rules)

pub loop-more-smaller : goal.loop-more-smaller
loop-more-smaller c = omega (arith, ap length c.in-Some.ensures.whole, takes_shorter token_opens c.in_ok-next.ensures.0)

pub returns-in_err-next : goal.returns-in_err-next
returns-in_err-next c =
    fails (pass (pass_same (names_same c.args.text.now)) (pass (pass_begun (name_part c.args.text.now) (nexts c.args.text.now) leads_anywhere c.loop-more.invariant (λ g. g c.in-Some.field-0-0 c.in-Some.more.now c.in-Some.ensures.whole c.in-Some.ensures.kind)) (pass_second (kind_part (Sign sign.Comma)) leads_anywhere (token_taken c.in-Some.ensures.whole c.in-Some.ensures.kind, tt)))) (search rules) c.in_err-next.ensures

pub returns : goal.returns
returns c = (same_takes (names_same c.args.text.now) (begun_end c.loop-more.invariant), c.in_default.ensures.whole)
