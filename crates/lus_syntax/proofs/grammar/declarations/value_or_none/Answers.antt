use Rattle.std.proofs.Common.{rules}
use Rattle.lus_syntax.specs.declared.token.TokenKind.TheVariants.{Sign}
use Rattle.lus_syntax.specs.declared.token.Symbol.TheVariants as sign
use Rattle.lus_syntax.proofs.Readers.{fails, pass, pass_second, pass_one, pass_other, pass_token, never_opened, never_taken, token_opens, sequence_opens, leads_anywhere, takes_both, takes_one, takes_other, takes_value, token_taken, kind_part, differ}
use Rattle.lus_syntax.proofs.grammar.declarations.value_or_none.Goals as goal

pub returns-in_err-value-in-Some : goal.returns-in_err-value-in-Some
returns-in_err-value-in-Some c =
    fails (pass (pass_one (never_taken token_opens (differ (λ e. (cc))) c.in-Some.ensures.whole c.in-Some.ensures.kind)) (pass_second (kind_part (Sign sign.Equals)) leads_anywhere (token_taken c.in-Some.ensures.whole c.in-Some.ensures.kind, tt))) (search rules) c.in_err-value-in-Some.ensures

pub returns-in_ok-value-in-Some : goal.returns-in_ok-value-in-Some
returns-in_ok-value-in-Some c = (takes_one (takes_both (token_taken c.in-Some.ensures.whole c.in-Some.ensures.kind) c.in_ok-value-in-Some.ensures.0), tt)

pub returns-in_err-rest-in-None : goal.returns-in_err-rest-in-None
returns-in_err-rest-in-None c =
    fails (pass (pass_other (never_opened (sequence_opens token_opens) c.in-None.ensures.whole)) (pass_token)) (search rules) c.in_err-rest-in-None.ensures

pub returns-in_ok-rest-in-None : goal.returns-in_ok-rest-in-None
returns-in_ok-rest-in-None c = (takes_other (takes_value c.in_ok-rest-in-None.ensures.0), tt)
