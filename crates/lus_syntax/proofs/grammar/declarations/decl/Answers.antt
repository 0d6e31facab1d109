use Rattle.std.proofs.Common.{rules}
use Rattle.lus_syntax.proofs.Readers.{fails, carries, pass, pass_any, pass_same, pass_one, pass_other, never_opened, never_taken, token_opens, sequence_opens, same_takes, takes_one, takes_other, differ, sealed_parsed}
use Rattle.lus_syntax.proofs.DeclarationParts.{decl_same, type_parts_part, const_parts_part, const_or_node_opens, not_type, ends_decl_alike}
use Rattle.lus_syntax.proofs.grammar.declarations.decl.Goals as goal

pub returns-in_err-decl : goal.returns-in_err-decl
returns-in_err-decl c =
    fails (pass (pass_same (decl_same c.args.text.now)) (pass (pass_one (never_taken (const_or_node_opens c.args.text.now) not_type c.in-Some.ensures.whole c.in-Some.ensures.kind)) pass_any)) (search rules) c.in_err-decl.ensures

pub returns-in-Some : goal.returns-in-Some
returns-in-Some c =
    carries c.sealed.result (pass (pass_same (decl_same c.args.text.now)) (pass_one (never_taken (const_or_node_opens c.args.text.now) not_type c.in-Some.ensures.whole c.in-Some.ensures.kind)))
    (λ x r h. (same_takes (decl_same c.args.text.now) (takes_one h.0), h.1))
    (sealed_parsed c.sealed.result (type_parts_part c.args.text.now) ends_decl_alike c.in_ok-decl.ensures.0 c.sealed.ensures.decl c.sealed.ensures.rest c.sealed.ensures.ends c.sealed.ensures.begins c.sealed.ensures.err)

pub returns-in_err-decl-2 : goal.returns-in_err-decl-2
returns-in_err-decl-2 c =
    fails (pass (pass_same (decl_same c.args.text.now)) (pass (pass_other (never_opened (sequence_opens token_opens) c.in_default.ensures.whole)) (pass (pass_one (never_taken (sequence_opens (sequence_opens token_opens)) (differ (λ e. (cc))) c.in-Some-accept.ensures.whole c.in-Some-accept.ensures.kind)) pass_any))) (search rules) c.in_err-decl-2.ensures

pub returns-in-Some-accept : goal.returns-in-Some-accept
returns-in-Some-accept c =
    carries c.sealed-in-Some-accept.result (pass (pass_same (decl_same c.args.text.now)) (pass (pass_other (never_opened (sequence_opens token_opens) c.in_default.ensures.whole)) (pass_one (never_taken (sequence_opens (sequence_opens token_opens)) (differ (λ e. (cc))) c.in-Some-accept.ensures.whole c.in-Some-accept.ensures.kind))))
    (λ x r h. (same_takes (decl_same c.args.text.now) (takes_other (takes_one h.0)), h.1))
    (sealed_parsed c.sealed-in-Some-accept.result (const_parts_part c.args.text.now) ends_decl_alike c.in_ok-decl-2.ensures.0 c.sealed-in-Some-accept.ensures.decl c.sealed-in-Some-accept.ensures.rest c.sealed-in-Some-accept.ensures.ends c.sealed-in-Some-accept.ensures.begins c.sealed-in-Some-accept.ensures.err)

pub returns : goal.returns
returns c =
    carries c.node_decl.result (pass (pass_same (decl_same c.args.text.now)) (pass (pass_other (never_opened (sequence_opens token_opens) c.in_default.ensures.whole)) (pass_other (never_opened (sequence_opens token_opens) c.in_default-accept.ensures.whole))))
    (λ x r h. (same_takes (decl_same c.args.text.now) (takes_other (takes_other h.0)), h.1))
    c.node_decl.ensures
