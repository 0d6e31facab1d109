use Rattle.std.proofs.Common.{rules}
use Rattle.lus_syntax.specs.declared.token.TokenKind.TheVariants.{Word}
use Rattle.lus_syntax.specs.declared.token.Keyword.TheVariants as word
use Rattle.lus_syntax.proofs.Readers.{fails, pass, pass_first, pass_second, leads_anywhere, takes_both, kind_part}
use Rattle.lus_syntax.proofs.NamesAndGroups.{name_part}
use Rattle.lus_syntax.proofs.DeclarationParts.{choices_part, named_choices_part}
use Rattle.lus_syntax.proofs.grammar.declarations.type_decl.Goals as goal

pub returns-in_err-keyword : goal.returns-in_err-keyword
returns-in_err-keyword c =
    fails (pass_first (named_choices_part c.args.text.now) leads_anywhere) (search rules) c.in_err-keyword.ensures

pub returns-in_err-name : goal.returns-in_err-name
returns-in_err-name c =
    fails (pass (pass_second (kind_part (Word word.TypeWord)) leads_anywhere c.in_ok-keyword.ensures) (pass_first (choices_part c.args.text.now) leads_anywhere)) (search rules) c.in_err-name.ensures

pub returns-in_err-choices : goal.returns-in_err-choices
returns-in_err-choices c =
    fails (pass (pass_second (kind_part (Word word.TypeWord)) leads_anywhere c.in_ok-keyword.ensures) (pass_second (name_part c.args.text.now) leads_anywhere c.in_ok-name.ensures)) (search rules) c.in_err-choices.ensures

pub returns : goal.returns
returns c = (takes_both c.in_ok-keyword.ensures.0 (takes_both c.in_ok-name.ensures.0 c.in_ok-choices.ensures.0), tt)
