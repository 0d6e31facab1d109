use Rattle.std.proofs.Common.{rules}
use Rattle.lus_syntax.specs.declared.token.TokenKind.TheVariants.{Sign}
use Rattle.lus_syntax.specs.declared.token.Symbol.TheVariants as sign
use Rattle.lus_syntax.proofs.Readers.{fails, pass, pass_first, pass_second, pass_one, pass_other, never_opened, never_taken, token_opens, sequence_opens, leads_anywhere, takes_both, takes_one, takes_other, token_taken, kind_part, differ}
use Rattle.lus_syntax.proofs.NamesAndGroups.{type_part}
use Rattle.lus_syntax.proofs.DeclarationParts.{type_and_may_value_part, may_value_part}
use Rattle.lus_syntax.proofs.grammar.declarations.type_and_value.Goals as goal

pub returns-in_err-value-in-Some : goal.returns-in_err-value-in-Some
returns-in_err-value-in-Some c =
    fails (pass (pass_one (never_taken (sequence_opens token_opens) (differ (λ e. (cc))) c.in-Some.ensures.whole c.in-Some.ensures.kind)) (pass_second (kind_part (Sign sign.Equals)) leads_anywhere (token_taken c.in-Some.ensures.whole c.in-Some.ensures.kind, tt))) (search rules) c.in_err-value-in-Some.ensures

pub returns-in_ok-value-in-Some : goal.returns-in_ok-value-in-Some
returns-in_ok-value-in-Some c = (takes_one (takes_both (token_taken c.in-Some.ensures.whole c.in-Some.ensures.kind) c.in_ok-value-in-Some.ensures.0), tt)

pub returns-in_err-behind_colon-in-None : goal.returns-in_err-behind_colon-in-None
returns-in_err-behind_colon-in-None c =
    fails (pass (pass_other (never_opened (sequence_opens token_opens) c.in-None.ensures.whole)) (pass_first (type_and_may_value_part c.args.text.now) leads_anywhere)) (search rules) c.in_err-behind_colon-in-None.ensures

pub returns-in_err-ty-in-None : goal.returns-in_err-ty-in-None
returns-in_err-ty-in-None c =
    fails (pass (pass_other (never_opened (sequence_opens token_opens) c.in-None.ensures.whole)) (pass (pass_second (kind_part (Sign sign.Colon)) leads_anywhere c.in_ok-behind_colon-in-None.ensures) (pass_first (may_value_part c.args.text.now) leads_anywhere))) (search rules) c.in_err-ty-in-None.ensures

pub returns-in_err-value-in-None : goal.returns-in_err-value-in-None
returns-in_err-value-in-None c =
    fails (pass (pass_other (never_opened (sequence_opens token_opens) c.in-None.ensures.whole)) (pass (pass_second (kind_part (Sign sign.Colon)) leads_anywhere c.in_ok-behind_colon-in-None.ensures) (pass_second (type_part c.args.text.now) leads_anywhere c.in_ok-ty-in-None.ensures))) (search rules) c.in_err-value-in-None.ensures

pub returns-in_ok-value-in-None : goal.returns-in_ok-value-in-None
returns-in_ok-value-in-None c = (takes_other (takes_both c.in_ok-behind_colon-in-None.ensures.0 (takes_both c.in_ok-ty-in-None.ensures.0 c.in_ok-value-in-None.ensures.0)), tt)
