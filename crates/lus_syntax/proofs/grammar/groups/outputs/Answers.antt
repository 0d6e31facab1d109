use Rattle.std.proofs.Common.{rules}
use Rattle.lus_syntax.specs.declared.token.TokenKind.TheVariants.{Sign}
use Rattle.lus_syntax.specs.declared.token.Symbol.TheVariants as sign
use Rattle.lus_syntax.proofs.Readers.{fails, carries, pass, pass_same, pass_first, pass_second, leads_anywhere, same_takes, takes_both, kind_part}
use Rattle.lus_syntax.proofs.Params.{outputs_same, closed_part}
use Rattle.lus_syntax.proofs.grammar.groups.outputs.Goals as goal

pub returns-in_err-inside : goal.returns-in_err-inside
returns-in_err-inside c = fails (pass (pass_same (outputs_same c.args.text.now)) (pass_first (closed_part c.args.text.now) leads_anywhere)) (search rules) c.in_err-inside.ensures

pub returns : goal.returns
returns c =
    carries c.params.result (pass (pass_same (outputs_same c.args.text.now)) (pass_second (kind_part (Sign sign.OpenParen)) leads_anywhere c.in_ok-inside.ensures))
    (λ x r h. (same_takes (outputs_same c.args.text.now) (takes_both c.in_ok-inside.ensures.0 h.0), tt))
    c.params.ensures
