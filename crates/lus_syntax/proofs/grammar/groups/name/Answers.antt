use Rattle.std.proofs.Common.{rules, sym, subst}
use Rattle.lus_syntax.specs.Parts.{Takes}
use Rattle.lus_syntax.specs.Sections.{IsName}
use Rattle.lus_syntax.proofs.Readers.{fails, pass_token, takes_value}
use Rattle.lus_syntax.proofs.grammar.groups.name.Goals as goal

pub returns-in_err-token : goal.returns-in_err-token
returns-in_err-token c = fails pass_token (search rules) c.in_err-token.ensures

pub returns : goal.returns
returns c = (subst (λ z. Takes (IsName c.args.text.now) c.args.tokens.now z c.in_ok-token.rest.now) (sym c.in_ok-spot_of.ensures) (takes_value c.in_ok-token.ensures.0), tt)
