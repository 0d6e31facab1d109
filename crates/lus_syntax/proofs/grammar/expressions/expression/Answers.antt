use Rattle.lus_syntax.proofs.OneExpression.{parsed}
use Rattle.lus_syntax.proofs.grammar.expressions.expression.Goals as goal

pub returns-clause-parsed : goal.returns-clause-parsed
returns-clause-parsed c = parsed c.args.text.now c.args.tokens.now c.ranked.result c.ranked.ensures.parsed
