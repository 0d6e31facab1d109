use Rattle.std.proofs.Common.{rules}
use Rattle.lus_syntax.specs.declared.token.TokenKind.TheVariants.{Sign, Word}
use Rattle.lus_syntax.specs.declared.token.Keyword.TheVariants as word
use Rattle.lus_syntax.specs.declared.token.Symbol.TheVariants as sign
use Rattle.lus_syntax.proofs.Readers.{fails, pass, pass_first, pass_second, takes_both, kind_part, leads_anywhere}
use Rattle.lus_syntax.proofs.NamesAndGroups.{names_part}
use Rattle.lus_syntax.proofs.DeclarationParts.{from_enum_part, from_brace_part, names_brace_part, brace_end_part, brace_leads}
use Rattle.lus_syntax.proofs.grammar.declarations.choices.Goals as goal

pub returns-in_err-behind_equals : goal.returns-in_err-behind_equals
returns-in_err-behind_equals c = fails (pass_first (from_enum_part c.args.text.now) leads_anywhere) (search rules) c.in_err-behind_equals.ensures

pub returns-in_err-behind_enum : goal.returns-in_err-behind_enum
returns-in_err-behind_enum c =
    fails (pass (pass_second (kind_part (Sign sign.Equals)) leads_anywhere c.in_ok-behind_equals.ensures) (pass_first (from_brace_part c.args.text.now) leads_anywhere)) (search rules) c.in_err-behind_enum.ensures

pub returns-in_err-inside : goal.returns-in_err-inside
returns-in_err-inside c =
    fails (pass (pass_second (kind_part (Sign sign.Equals)) leads_anywhere c.in_ok-behind_equals.ensures) (pass (pass_second (kind_part (Word word.Enum)) leads_anywhere c.in_ok-behind_enum.ensures) (pass_first (names_brace_part c.args.text.now) leads_anywhere))) (search rules) c.in_err-inside.ensures

pub returns-in_err-choices : goal.returns-in_err-choices
returns-in_err-choices c =
    fails (pass (pass_second (kind_part (Sign sign.Equals)) leads_anywhere c.in_ok-behind_equals.ensures) (pass (pass_second (kind_part (Word word.Enum)) leads_anywhere c.in_ok-behind_enum.ensures) (pass (pass_second (kind_part (Sign sign.OpenBrace)) leads_anywhere c.in_ok-inside.ensures) (pass_first brace_end_part brace_leads)))) (search rules) c.in_err-choices.ensures

pub returns-in_err-last : goal.returns-in_err-last
returns-in_err-last c =
    fails (pass (pass_second (kind_part (Sign sign.Equals)) leads_anywhere c.in_ok-behind_equals.ensures) (pass (pass_second (kind_part (Word word.Enum)) leads_anywhere c.in_ok-behind_enum.ensures) (pass (pass_second (kind_part (Sign sign.OpenBrace)) leads_anywhere c.in_ok-inside.ensures) (pass (pass_second (names_part c.args.text.now) brace_leads c.in_ok-choices.ensures) (pass_first (kind_part (Sign sign.Semicolon)) leads_anywhere))))) (search rules) c.in_err-last.ensures

pub returns-in_err-rest : goal.returns-in_err-rest
returns-in_err-rest c =
    fails (pass (pass_second (kind_part (Sign sign.Equals)) leads_anywhere c.in_ok-behind_equals.ensures) (pass (pass_second (kind_part (Word word.Enum)) leads_anywhere c.in_ok-behind_enum.ensures) (pass (pass_second (kind_part (Sign sign.OpenBrace)) leads_anywhere c.in_ok-inside.ensures) (pass (pass_second (names_part c.args.text.now) brace_leads c.in_ok-choices.ensures) (pass_second (kind_part (Sign sign.CloseBrace)) leads_anywhere c.in_ok-last.ensures))))) (search rules) c.in_err-rest.ensures

pub returns : goal.returns
returns c = (takes_both c.in_ok-behind_equals.ensures.0 (takes_both c.in_ok-behind_enum.ensures.0 (takes_both c.in_ok-inside.ensures.0 (takes_both c.in_ok-choices.ensures.0 (takes_both c.in_ok-last.ensures.0 c.in_ok-rest.ensures.0)))), tt)
