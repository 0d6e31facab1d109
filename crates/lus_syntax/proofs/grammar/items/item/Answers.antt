use Rattle.std.proofs.Common.{rules}
use Rattle.lus_syntax.specs.declared.token.TokenKind.TheVariants.{Word}
use Rattle.lus_syntax.specs.declared.token.Keyword.TheVariants as word
use Rattle.lus_syntax.proofs.Readers.{fails, pass, pass_same, pass_first, pass_second, pass_one, pass_other, never_opened, token_opens, sequence_opens, leads_anywhere, same_takes, takes_both, takes_one, takes_other, token_taken, kind_part}
use Rattle.lus_syntax.proofs.Equations.{item_same, ended_part, left_part, never_equality}
use Rattle.lus_syntax.proofs.grammar.items.item.Goals as goal

pub returns-in_err-expr-in-Some : goal.returns-in_err-expr-in-Some
returns-in_err-expr-in-Some c =
    fails (pass (pass_same (item_same c.args.text.now)) (pass (pass_one (never_equality c.args.text.now c.in-Some.ensures.whole c.in-Some.ensures.kind)) (pass_second (kind_part (Word word.Assert)) leads_anywhere (token_taken c.in-Some.ensures.whole c.in-Some.ensures.kind, tt)))) (search rules) c.in_err-expr-in-Some.ensures

pub returns-in_ok-expr-in-Some : goal.returns-in_ok-expr-in-Some
returns-in_ok-expr-in-Some c = (same_takes (item_same c.args.text.now) (takes_one (takes_both (token_taken c.in-Some.ensures.whole c.in-Some.ensures.kind) c.in_ok-expr-in-Some.ensures.0)), tt)

pub returns-in_err-left-in-None : goal.returns-in_err-left-in-None
returns-in_err-left-in-None c =
    fails (pass (pass_same (item_same c.args.text.now)) (pass (pass_other (never_opened (sequence_opens token_opens) c.in-None.ensures.whole)) (pass_first (ended_part c.args.text.now) leads_anywhere))) (search rules) c.in_err-left-in-None.ensures

pub returns-in_err-expr-in-None : goal.returns-in_err-expr-in-None
returns-in_err-expr-in-None c =
    fails (pass (pass_same (item_same c.args.text.now)) (pass (pass_other (never_opened (sequence_opens token_opens) c.in-None.ensures.whole)) (pass_second (left_part c.args.text.now) leads_anywhere c.in_ok-left-in-None.ensures))) (search rules) c.in_err-expr-in-None.ensures

pub returns-in_ok-expr-in-None : goal.returns-in_ok-expr-in-None
returns-in_ok-expr-in-None c = (same_takes (item_same c.args.text.now) (takes_other (takes_both c.in_ok-left-in-None.ensures.0 c.in_ok-expr-in-None.ensures.0)), tt)
