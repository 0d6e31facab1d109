use Rattle.lus_syntax.specs.declared.token.TokenKind.TheVariants.{Sign}
use Rattle.lus_syntax.specs.declared.token.Symbol.TheVariants as sign
use Rattle.lus_syntax.proofs.Readers.{carries, pass, pass_second, pass_one, pass_other, leads_anywhere, takes_both, takes_one, takes_other, token_taken, kind_part}
use Rattle.lus_syntax.proofs.Params.{never_locals, never_semicolon}
use Rattle.lus_syntax.proofs.grammar.groups.opening.Goals as goal

pub returns-in-Some : goal.returns-in-Some
returns-in-Some c =
    carries c.locals.result (pass (pass_one (never_locals c.args.text.now c.in-Some.ensures.whole c.in-Some.ensures.kind)) (pass_second (kind_part (Sign sign.Semicolon)) leads_anywhere (token_taken c.in-Some.ensures.whole c.in-Some.ensures.kind, tt)))
    (λ x r h. (takes_one (takes_both (token_taken c.in-Some.ensures.whole c.in-Some.ensures.kind) h.0), tt))
    c.locals.ensures

pub returns-in-None : goal.returns-in-None
returns-in-None c = carries c.locals-in-None.result (pass_other (never_semicolon c.args.text.now c.in-None.ensures.whole)) (λ x r h. (takes_other h.0, tt)) c.locals-in-None.ensures
