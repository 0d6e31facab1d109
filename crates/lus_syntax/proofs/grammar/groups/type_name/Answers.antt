use Rattle.std.proofs.Common.{sym, subst, ◌∙◌}
use Rattle.lus_syntax.specs.Parts.{Takes}
use Rattle.lus_syntax.specs.Sections.{IsType}
use Rattle.lus_syntax.proofs.Readers.{token_taken}
use Rattle.lus_syntax.proofs.NamesAndGroups.{no_token, no_type}
use Rattle.lus_syntax.proofs.grammar.groups.type_name.Goals as goal

pub returns-in-None : goal.returns-in-None
returns-in-None c = no_token c.args.text.now c.in-None.ensures

pub returns-in_ok-spot_of-in-Some : goal.returns-in_ok-spot_of-in-Some
returns-in_ok-spot_of-in-Some c = (subst (λ z. Takes (IsType c.args.text.now) c.args.tokens.now z c.in-Some.rest.now) (sym c.in_ok-spot_of-in-Some.ensures) (token_taken c.in-Some.ensures (sym c.is_type.ensures ∙ c.if-is_type.true)), tt)

pub returns-else-is_type : goal.returns-else-is_type
returns-else-is_type c = no_type c.args.text.now c.in-Some.ensures (sym c.is_type.ensures ∙ c.if-is_type.false)
