use Rattle.std.proofs.Common.{rules}
use Rattle.lus_syntax.specs.declared.token.TokenKind.TheVariants.{Sign}
use Rattle.lus_syntax.specs.declared.token.Symbol.TheVariants as sign
use Rattle.lus_syntax.proofs.Readers.{fails, pass, pass_same, pass_first, pass_second, pass_one, pass_other, never_opened, token_opens, sequence_opens, leads_anywhere, same_takes, takes_both, takes_one, takes_other, token_taken, kind_part}
use Rattle.lus_syntax.proofs.NamesAndGroups.{names_part}
use Rattle.lus_syntax.proofs.Equations.{left_same, equals_leads, close_leads, close_and_equals_part, never_left_bare}
use Rattle.lus_syntax.proofs.grammar.items.left_side.Goals as goal

pub returns-in_err-left-in-None : goal.returns-in_err-left-in-None
returns-in_err-left-in-None c = fails (pass (pass_same (left_same c.args.text.now)) (pass (pass_one (never_opened (sequence_opens token_opens) c.in-None.ensures.whole)) (pass_first (kind_part (Sign sign.Equals)) equals_leads))) (search rules) c.in_err-left-in-None.ensures

pub returns-in_err-equals-in-None : goal.returns-in_err-equals-in-None
returns-in_err-equals-in-None c = fails (pass (pass_same (left_same c.args.text.now)) (pass (pass_one (never_opened (sequence_opens token_opens) c.in-None.ensures.whole)) (pass_second (names_part c.args.text.now) equals_leads c.in_ok-left-in-None.ensures))) (search rules) c.in_err-equals-in-None.ensures

pub returns-in_ok-equals-in-None : goal.returns-in_ok-equals-in-None
returns-in_ok-equals-in-None c = (same_takes (left_same c.args.text.now) (takes_one (takes_both c.in_ok-left-in-None.ensures.0 c.in_ok-equals-in-None.ensures.0)), tt)

pub returns-in_err-left-in-Some : goal.returns-in_err-left-in-Some
returns-in_err-left-in-Some c =
    fails (pass (pass_same (left_same c.args.text.now)) (pass (pass_other (never_left_bare c.args.text.now c.in-Some.ensures.whole c.in-Some.ensures.kind)) (pass (pass_second (kind_part (Sign sign.OpenParen)) leads_anywhere (token_taken c.in-Some.ensures.whole c.in-Some.ensures.kind, tt)) (pass_first close_and_equals_part close_leads)))) (search rules) c.in_err-left-in-Some.ensures

pub returns-in_err-behind-in-Some : goal.returns-in_err-behind-in-Some
returns-in_err-behind-in-Some c =
    fails (pass (pass_same (left_same c.args.text.now)) (pass (pass_other (never_left_bare c.args.text.now c.in-Some.ensures.whole c.in-Some.ensures.kind)) (pass (pass_second (kind_part (Sign sign.OpenParen)) leads_anywhere (token_taken c.in-Some.ensures.whole c.in-Some.ensures.kind, tt)) (pass (pass_second (names_part c.args.text.now) close_leads c.in_ok-left-in-Some.ensures) (pass_first (kind_part (Sign sign.Equals)) leads_anywhere))))) (search rules) c.in_err-behind-in-Some.ensures

pub returns-in_err-equals-in-Some : goal.returns-in_err-equals-in-Some
returns-in_err-equals-in-Some c =
    fails (pass (pass_same (left_same c.args.text.now)) (pass (pass_other (never_left_bare c.args.text.now c.in-Some.ensures.whole c.in-Some.ensures.kind)) (pass (pass_second (kind_part (Sign sign.OpenParen)) leads_anywhere (token_taken c.in-Some.ensures.whole c.in-Some.ensures.kind, tt)) (pass (pass_second (names_part c.args.text.now) close_leads c.in_ok-left-in-Some.ensures) (pass_second (kind_part (Sign sign.CloseParen)) leads_anywhere c.in_ok-behind-in-Some.ensures))))) (search rules) c.in_err-equals-in-Some.ensures

pub returns-in_ok-equals-in-Some : goal.returns-in_ok-equals-in-Some
returns-in_ok-equals-in-Some c = (same_takes (left_same c.args.text.now) (takes_other (takes_both (token_taken c.in-Some.ensures.whole c.in-Some.ensures.kind) (takes_both c.in_ok-left-in-Some.ensures.0 (takes_both c.in_ok-behind-in-Some.ensures.0 c.in_ok-equals-in-Some.ensures.0)))), tt)
