use Rattle.std.proofs.Common.{rules, arith}
use Rattle.lus_syntax.proofs.Readers.{fails, pass, pass_same, pass_first, pass_begun, many_part, leads_anywhere, begun_start, begun_next, begun_end, same_takes, takes_shorter}
use Rattle.lus_syntax.proofs.Params.{lines_same, line_part, line_opens, line_after_line}
use Rattle.lus_syntax.proofs.grammar.groups.lines.Goals as goal

pub returns-in_err-first : goal.returns-in_err-first
returns-in_err-first c = fails (pass (pass_same (lines_same c.args.text.now)) (pass_first (many_part (line_after_line c.args.text.now)) leads_anywhere)) (search rules) c.in_err-first.ensures

pub lines-init : goal.lines-init
lines-init c = begun_start c.in_ok-first.ensures (search rules)

pub returns-in_err-next : goal.returns-in_err-next
returns-in_err-next c = fails (pass (pass_same (lines_same c.args.text.now)) (pass_begun (line_part c.args.text.now) (line_after_line c.args.text.now) leads_anywhere c.lines.invariant (λ g. g c.in-Some.field-0.0 c.in-Some.field-0.1.now c.in-Some.ensures.whole c.in-Some.ensures.kind))) (search rules) c.in_err-next.ensures

pub lines-preserved : goal.lines-preserved
lines-preserved c = begun_next c.lines.invariant c.in_ok-next.ensures (search rules)

pub lines-smaller : goal.lines-smaller
lines-smaller c = omega (arith, takes_shorter (line_opens c.args.text.now) c.in_ok-next.ensures.0)

pub returns : goal.returns
returns c = (same_takes (lines_same c.args.text.now) (begun_end c.lines.invariant), c.in_default.ensures.whole)
