use Rattle.std.proofs.Common.{rules}
use Rattle.lus_syntax.specs.declared.token.TokenKind.TheVariants.{Word}
use Rattle.lus_syntax.specs.declared.token.Keyword.TheVariants as word
use Rattle.lus_syntax.proofs.Readers.{fails, pass, pass_first, pass_second, leads_anywhere, takes_both, kind_part}
use Rattle.lus_syntax.proofs.Params.{opening_part}
use Rattle.lus_syntax.proofs.DeclarationParts.{items_and_tel_part, items_part, tel_part, tel_leads, closing_part}
use Rattle.lus_syntax.proofs.grammar.declarations.definition.Goals as goal

pub returns-in_err-locals : goal.returns-in_err-locals
returns-in_err-locals c =
    fails (pass_first (items_and_tel_part c.args.text.now) leads_anywhere) (search rules) c.in_err-locals.ensures

pub returns-in_err-items : goal.returns-in_err-items
returns-in_err-items c =
    fails (pass (pass_second (opening_part c.args.text.now) leads_anywhere c.in_ok-locals.ensures) (pass_first tel_part tel_leads)) (search rules) c.in_err-items.ensures

pub returns-in_err-behind_tel : goal.returns-in_err-behind_tel
returns-in_err-behind_tel c =
    fails (pass (pass_second (opening_part c.args.text.now) leads_anywhere c.in_ok-locals.ensures) (pass (pass_second (items_part c.args.text.now) tel_leads c.in_ok-items.ensures) (pass_first closing_part leads_anywhere))) (search rules) c.in_err-behind_tel.ensures

pub returns-in_err-rest : goal.returns-in_err-rest
returns-in_err-rest c =
    fails (pass (pass_second (opening_part c.args.text.now) leads_anywhere c.in_ok-locals.ensures) (pass (pass_second (items_part c.args.text.now) tel_leads c.in_ok-items.ensures) (pass_second (kind_part (Word word.Tel)) leads_anywhere c.in_ok-behind_tel.ensures))) (search rules) c.in_err-rest.ensures

pub returns : goal.returns
returns c = (takes_both c.in_ok-locals.ensures.0 (takes_both c.in_ok-items.ensures.0 (takes_both c.in_ok-behind_tel.ensures.0 c.in_ok-rest.ensures.0)), c.in_ok-rest.ensures.1)
