use Rattle.std.proofs.Common.{rules}
use Rattle.lus_syntax.specs.declared.token.TokenKind.TheVariants.{Word}
use Rattle.lus_syntax.specs.declared.token.Keyword.TheVariants as word
use Rattle.lus_syntax.proofs.Readers.{fails, pass, pass_same, pass_first, pass_second, pass_one, pass_other, pass_token, never_opened, token_opens, sequence_opens, leads_anywhere, same_takes, takes_both, takes_one, takes_other, takes_value, token_taken, kind_part, takes_as}
use Rattle.lus_syntax.proofs.Params.{locals_same, lines_part, let_leads, lacks_other}
use Rattle.lus_syntax.proofs.grammar.groups.locals.Goals as goal

pub returns-in_err-rest-in-None : goal.returns-in_err-rest-in-None
returns-in_err-rest-in-None c = fails (pass (pass_same (locals_same c.args.text.now)) (pass (pass_one (never_opened (sequence_opens token_opens) c.in-None.ensures.whole)) pass_token)) (search rules) c.in_err-rest-in-None.ensures

pub returns-in_ok-rest-in-None : goal.returns-in_ok-rest-in-None
returns-in_ok-rest-in-None c = (same_takes (locals_same c.args.text.now) (takes_one (takes_as (takes_value c.in_ok-rest-in-None.ensures.0) c.new.ensures)), tt)

pub returns-in_err-groups-in-Some : goal.returns-in_err-groups-in-Some
returns-in_err-groups-in-Some c =
    fails (pass (pass_same (locals_same c.args.text.now)) (pass (pass_other (never_opened token_opens (lacks_other (Word word.Let) c.in-Some.ensures.whole c.in-Some.ensures.kind (λ e. (cc))))) (pass (pass_second (kind_part (Word word.Var)) leads_anywhere (token_taken c.in-Some.ensures.whole c.in-Some.ensures.kind, tt)) (pass_first (kind_part (Word word.Let)) let_leads)))) (search rules) c.in_err-groups-in-Some.ensures

pub returns-in_err-rest-in-Some : goal.returns-in_err-rest-in-Some
returns-in_err-rest-in-Some c =
    fails (pass (pass_same (locals_same c.args.text.now)) (pass (pass_other (never_opened token_opens (lacks_other (Word word.Let) c.in-Some.ensures.whole c.in-Some.ensures.kind (λ e. (cc))))) (pass (pass_second (kind_part (Word word.Var)) leads_anywhere (token_taken c.in-Some.ensures.whole c.in-Some.ensures.kind, tt)) (pass_second (lines_part c.args.text.now) let_leads c.in_ok-groups-in-Some.ensures)))) (search rules) c.in_err-rest-in-Some.ensures

pub returns-in_ok-rest-in-Some : goal.returns-in_ok-rest-in-Some
returns-in_ok-rest-in-Some c = (same_takes (locals_same c.args.text.now) (takes_other (takes_both (token_taken c.in-Some.ensures.whole c.in-Some.ensures.kind) (takes_both c.in_ok-groups-in-Some.ensures.0 c.in_ok-rest-in-Some.ensures.0))), tt)
