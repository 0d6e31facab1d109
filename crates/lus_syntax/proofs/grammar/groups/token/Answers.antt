use Rattle.lus_syntax.proofs.Readers.{token_parsed}
use Rattle.lus_syntax.proofs.grammar.groups.token.Goals as goal

pub returns : goal.returns
returns c = token_parsed c.args.tokens.now c.args.kind c.expect.result c.expect.ensures.whole c.expect.ensures.kind c.expect.ensures.lacks c.expect.ensures.err
