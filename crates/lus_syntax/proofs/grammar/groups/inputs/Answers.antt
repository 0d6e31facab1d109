use Rattle.std.proofs.Common.{rules}
use Rattle.lus_syntax.specs.declared.token.TokenKind.TheVariants.{Sign}
use Rattle.lus_syntax.specs.declared.token.Symbol.TheVariants as sign
use Rattle.lus_syntax.proofs.Readers.{fails, carries, pass, pass_same, pass_first, pass_second, pass_other, never_opened, token_opens, leads_anywhere, same_takes, takes_both, takes_one, takes_other, token_taken, kind_part, takes_as}
use Rattle.lus_syntax.proofs.Params.{inputs_same, may_params_part}
use Rattle.lus_syntax.proofs.grammar.groups.inputs.Goals as goal

pub returns-in_err-inside : goal.returns-in_err-inside
returns-in_err-inside c = fails (pass (pass_same (inputs_same c.args.text.now)) (pass_first (may_params_part c.args.text.now) leads_anywhere)) (search rules) c.in_err-inside.ensures

pub returns-in-Some : goal.returns-in-Some
returns-in-Some c = (same_takes (inputs_same c.args.text.now) (takes_both c.in_ok-inside.ensures.0 (takes_one (takes_as (token_taken c.in-Some.ensures.whole c.in-Some.ensures.kind) c.new.ensures))), tt)

pub returns-in-None : goal.returns-in-None
returns-in-None c =
    carries c.params.result (pass (pass_same (inputs_same c.args.text.now)) (pass (pass_second (kind_part (Sign sign.OpenParen)) leads_anywhere c.in_ok-inside.ensures) (pass_other (never_opened token_opens c.in-None.ensures.whole))))
    (λ x r h. (same_takes (inputs_same c.args.text.now) (takes_both c.in_ok-inside.ensures.0 (takes_other h.0)), tt))
    c.params.ensures
