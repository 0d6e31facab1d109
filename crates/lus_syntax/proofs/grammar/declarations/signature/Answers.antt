use Rattle.std.proofs.Common.{rules}
use Rattle.lus_syntax.specs.declared.token.TokenKind.TheVariants.{Word}
use Rattle.lus_syntax.specs.declared.token.Keyword.TheVariants as word
use Rattle.lus_syntax.proofs.Readers.{fails, pass, pass_first, pass_second, leads_anywhere, takes_both, kind_part}
use Rattle.lus_syntax.proofs.NamesAndGroups.{name_part}
use Rattle.lus_syntax.proofs.Params.{inputs_part, outputs_part}
use Rattle.lus_syntax.proofs.DeclarationParts.{named_inputs_part, inputs_outputs_part, returns_part}
use Rattle.lus_syntax.proofs.grammar.declarations.signature.Goals as goal

pub returns-in_err-keyword : goal.returns-in_err-keyword
returns-in_err-keyword c =
    fails (pass_first (named_inputs_part c.args.text.now) leads_anywhere) (search rules) c.in_err-keyword.ensures

pub returns-in_err-name : goal.returns-in_err-name
returns-in_err-name c =
    fails (pass (pass_second (kind_part (Word word.Node)) leads_anywhere c.in_ok-keyword.ensures) (pass_first (inputs_outputs_part c.args.text.now) leads_anywhere)) (search rules) c.in_err-name.ensures

pub returns-in_err-inputs : goal.returns-in_err-inputs
returns-in_err-inputs c =
    fails (pass (pass_second (kind_part (Word word.Node)) leads_anywhere c.in_ok-keyword.ensures) (pass (pass_second (name_part c.args.text.now) leads_anywhere c.in_ok-name.ensures) (pass_first (returns_part c.args.text.now) leads_anywhere))) (search rules) c.in_err-inputs.ensures

pub returns-in_err-behind_returns : goal.returns-in_err-behind_returns
returns-in_err-behind_returns c =
    fails (pass (pass_second (kind_part (Word word.Node)) leads_anywhere c.in_ok-keyword.ensures) (pass (pass_second (name_part c.args.text.now) leads_anywhere c.in_ok-name.ensures) (pass (pass_second (inputs_part c.args.text.now) leads_anywhere c.in_ok-inputs.ensures) (pass_first (outputs_part c.args.text.now) leads_anywhere)))) (search rules) c.in_err-behind_returns.ensures

pub returns-in_err-outputs : goal.returns-in_err-outputs
returns-in_err-outputs c =
    fails (pass (pass_second (kind_part (Word word.Node)) leads_anywhere c.in_ok-keyword.ensures) (pass (pass_second (name_part c.args.text.now) leads_anywhere c.in_ok-name.ensures) (pass (pass_second (inputs_part c.args.text.now) leads_anywhere c.in_ok-inputs.ensures) (pass_second (kind_part (Word word.Returns)) leads_anywhere c.in_ok-behind_returns.ensures)))) (search rules) c.in_err-outputs.ensures

pub returns : goal.returns
returns c = (takes_both c.in_ok-keyword.ensures.0 (takes_both c.in_ok-name.ensures.0 (takes_both c.in_ok-inputs.ensures.0 (takes_both c.in_ok-behind_returns.ensures.0 c.in_ok-outputs.ensures.0))), tt)
