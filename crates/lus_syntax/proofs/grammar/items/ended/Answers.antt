use Rattle.std.proofs.Common.{rules}
use Rattle.lus_syntax.specs.declared.token.TokenKind.TheVariants.{Sign}
use Rattle.lus_syntax.specs.declared.token.Symbol.TheVariants as sign
use Rattle.lus_syntax.proofs.Readers.{fails, pass_first, pass_second, takes_both, kind_part}
use Rattle.lus_syntax.proofs.Equations.{expr_part, semicolon_behind}
use Rattle.lus_syntax.proofs.grammar.items.ended.Goals as goal

pub returns-in_err-expr : goal.returns-in_err-expr
returns-in_err-expr c = fails (pass_first (kind_part (Sign sign.Semicolon)) semicolon_behind) (search rules) c.in_err-expr.ensures.parsed

pub returns-in_err-rest : goal.returns-in_err-rest
returns-in_err-rest c = fails (pass_second (expr_part c.args.text.now) semicolon_behind c.in_ok-expr.ensures.parsed) (search rules) c.in_err-rest.ensures

pub returns : goal.returns
returns c = (takes_both c.in_ok-expr.ensures.parsed.0 c.in_ok-rest.ensures.0, tt)
