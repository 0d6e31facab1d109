use Rattle.std.proofs.Common.{rules, inl, inr}
use Rattle.lus_syntax.proofs.Readers.{sticks, pass_other, never_nothing, takes_other, token_taken, stuck_behind}
use Rattle.lus_syntax.proofs.DeclarationParts.{closer_part, ends_decl_alike, no_closer}
use Rattle.lus_syntax.proofs.grammar.declarations.closing.Goals as goal

pub returns-in_err-refuse_signs-in-Some : goal.returns-in_err-refuse_signs-in-Some
returns-in_err-refuse_signs-in-Some c =
    sticks (pass_other (never_nothing ends_decl_alike (λ f. no_closer c.in-Some.sign f c.in-Some.ensures.whole (inl c.in-Some.ensures.kind)))) (search rules) c.in_err-refuse_signs-in-Some.ensures.err
    (stuck_behind closer_part ends_decl_alike (token_taken c.in-Some.ensures.whole (inl c.in-Some.ensures.kind)) c.in_err-refuse_signs-in-Some.ensures.begins)

pub returns-in_ok-refuse_signs-in-Some : goal.returns-in_ok-refuse_signs-in-Some
returns-in_ok-refuse_signs-in-Some c = (takes_other (token_taken c.in-Some.ensures.whole (inl c.in-Some.ensures.kind)), c.in_ok-refuse_signs-in-Some.ensures.ok)

pub returns-in_err-refuse_signs-in-Some-accept : goal.returns-in_err-refuse_signs-in-Some-accept
returns-in_err-refuse_signs-in-Some-accept c =
    sticks (pass_other (never_nothing ends_decl_alike (λ f. no_closer c.in-Some-accept.sign f c.in-Some-accept.ensures.whole (inr c.in-Some-accept.ensures.kind)))) (search rules) c.in_err-refuse_signs-in-Some-accept.ensures.err
    (stuck_behind closer_part ends_decl_alike (token_taken c.in-Some-accept.ensures.whole (inr c.in-Some-accept.ensures.kind)) c.in_err-refuse_signs-in-Some-accept.ensures.begins)

pub returns-in_ok-refuse_signs-in-Some-accept : goal.returns-in_ok-refuse_signs-in-Some-accept
returns-in_ok-refuse_signs-in-Some-accept c = (takes_other (token_taken c.in-Some-accept.ensures.whole (inr c.in-Some-accept.ensures.kind)), c.in_ok-refuse_signs-in-Some-accept.ensures.ok)
