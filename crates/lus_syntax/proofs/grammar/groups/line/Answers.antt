use Rattle.std.proofs.Common.{rules}
use Rattle.lus_syntax.specs.declared.token.TokenKind.TheVariants.{Sign}
use Rattle.lus_syntax.specs.declared.token.Symbol.TheVariants as sign
use Rattle.lus_syntax.proofs.Readers.{fails, pass_first, pass_second, takes_both, kind_part}
use Rattle.lus_syntax.proofs.NamesAndGroups.{group_part}
use Rattle.lus_syntax.proofs.Params.{semicolon_leads}
use Rattle.lus_syntax.proofs.grammar.groups.line.Goals as goal

pub returns-in_err-group : goal.returns-in_err-group
returns-in_err-group c = fails (pass_first (kind_part (Sign sign.Semicolon)) semicolon_leads) (search rules) c.in_err-group.ensures

pub returns-in_err-rest : goal.returns-in_err-rest
returns-in_err-rest c = fails (pass_second (group_part c.args.text.now) semicolon_leads c.in_ok-group.ensures) (search rules) c.in_err-rest.ensures

pub returns : goal.returns
returns c = (takes_both c.in_ok-group.ensures.0 c.in_ok-rest.ensures.0, tt)
