use Rattle.std.proofs.Common.{rules}
use Rattle.lus_syntax.proofs.Readers.{fails, pass_first, pass_second, leads_anywhere, takes_both}
use Rattle.lus_syntax.proofs.DeclarationParts.{definition_part, signature_part}
use Rattle.lus_syntax.proofs.grammar.declarations.node_decl.Goals as goal

pub returns-in_err-heading : goal.returns-in_err-heading
returns-in_err-heading c =
    fails (pass_first (definition_part c.args.text.now) leads_anywhere) (search rules) c.in_err-heading.ensures

pub returns-in_err-body : goal.returns-in_err-body
returns-in_err-body c =
    fails (pass_second (signature_part c.args.text.now) leads_anywhere c.in_ok-heading.ensures) (search rules) c.in_err-body.ensures

pub returns : goal.returns
returns c = (takes_both c.in_ok-heading.ensures.0 c.in_ok-body.ensures.0, c.in_ok-body.ensures.1)
