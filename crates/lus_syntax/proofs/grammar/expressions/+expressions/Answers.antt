use Rattle.std.proofs.Common.{rules, ◌≡◌, suc, ◌+◌, true, false, [], ◌∷◌, ◌++◌, refl, sym, ap, ◌∙◌, subst, arith, length}
use Rattle.std.specs.Prelude.{Err, Some, None}
use Rattle.lus_syntax.specs.declared.grammar.fault.PartFault.TheVariants.{Stuck}
use Rattle.lus_syntax.specs.declared.ast.ExprKind.TheVariants as tree
use Rattle.lus_syntax.specs.declared.ast.UnOp.TheVariants as one
use Rattle.lus_syntax.specs.Grammar.{node, literal, spelling}
use Rattle.lus_syntax.specs.Operators.{loosest, prefix_of, right_rank}
use Rattle.lus_syntax.specs.Reading.{Answers, Reads, At, Operand, Nots, Arguments, Bad, StopsAt, Partway, Called, front_rank, r_prefix, r_pre_not, r_if, r_atom, r_parens, r_more_nots, r_last_not, r_no_arguments}
use Rattle.lus_syntax.proofs.ExprSteps.{err_map, bad_rank, bad_operand, partway_start, partway_end, ends, closed, partway_more, bad_right, bad_chain, bad_prefix, bad_pre, bad_nots, bad_more_nots, bad_last_not}
use Rattle.lus_syntax.proofs.ExprForms.{bad_if, bad_no_then, bad_then, bad_no_else, bad_else, bad_parens, bad_no_close, bad_call_parens, bad_call_literal, bad_atom, bad_nothing, bad_argument, bad_separator, called_more, called_end, bad_call_call, bad_call_none, stops_atom, stops_if, ended, call_answers}
use Rattle.lus_syntax.proofs.grammar.expressions.+expressions.Goals as goal

pub arguments-returns-in-Some-clause-parsed : goal.arguments-returns-in-Some-clause-parsed
arguments-returns-in-Some-clause-parsed t c =
    let u = c.in-Some.field-0-0 in
    let f = c.finished.ensures in
    let g = c.leaf.ensures in
    let h = c.in_ok-spelling.ensures in
    let i = c.new-arguments.ensures in
    let e : node c.args.name.start (tree.Call (spelling c.args.text.now c.args.name) []) ≡ c.leaf.result = cc in
    subst (λ l. Answers c.args.text.now (Arguments c.args.name []) l c.finished.result) (sym c.in-Some.ensures.whole)
    (ended (Arguments c.args.name []) c.finished.result f.e f.rest f.lacks f.stuck f.err
    (subst (λ z. Reads c.args.text.now (Arguments c.args.name []) (u ∷ c.in-Some.behind.now) z false c.in-Some.behind.now) e (r_no_arguments u c.in-Some.ensures.kind))
    (λ l. stops_atom c.in-Some.behind.now refl l)
    (bad_call_none u c.in-Some.ensures.kind))

pub arguments-returns-in_err-argument-clause-parsed : goal.arguments-returns-in_err-argument-clause-parsed
arguments-returns-in_err-argument-clause-parsed t c =
    let e : c.from_residual-in_err-argument.result ≡ Err c.in_err-argument.field-0.0 = search rules in
    subst (Answers c.args.text.now (Arguments c.args.name []) c.args.tokens.now) (sym e) (err_map (Arguments c.args.name []) (At loosest) c.loop-spelling.rest.now c.args.tokens.now (bad_argument c.loop-spelling.invariant.called) c.in_err-argument.field-0.0 c.in_err-argument.ensures.parsed)

pub arguments-loop-spelling-preserved : goal.arguments-loop-spelling-preserved
arguments-loop-spelling-preserved t c =
    let d = c.in_ok-argument.ensures.parsed in
    let s = ap length c.in-Some-accept.ensures.whole in
    record {
      called = subst (λ x. Called c.args.text.now c.args.name c.args.tokens.now x c.in-Some-accept.more.now) (sym c.in_ok-add_argument.ensures) (called_more c.in-Some-accept.field-0-0 c.loop-spelling.invariant.called (subst (λ l. Reads c.args.text.now (At loosest) c.loop-spelling.rest.now c.in_ok-argument.argument d.0 l) c.in-Some-accept.ensures.whole d.1) c.in-Some-accept.ensures.kind);
      spelled = c.loop-spelling.invariant.spelled;
      shorter = omega (arith, s, c.in_ok-argument.ensures.shorter, c.loop-spelling.invariant.shorter);
    }

pub arguments-returns-in_err-behind-in-None-clause-parsed : goal.arguments-returns-in_err-behind-in-None-clause-parsed
arguments-returns-in_err-behind-in-None-clause-parsed t c =
    let d = c.in_ok-argument.ensures.parsed in
    let e : c.from_residual-in_err-behind-in-None.result ≡ Err (Stuck (length c.in_ok-argument.behind.now)) = search rules in
    subst (Answers c.args.text.now (Arguments c.args.name []) c.args.tokens.now) (sym e) (bad_separator c.loop-spelling.invariant.called d.1 d.2 c.in-None.ensures.whole c.in_err-behind-in-None.ensures.lacks)

pub arguments-returns-in-None-clause-parsed : goal.arguments-returns-in-None-clause-parsed
arguments-returns-in-None-clause-parsed t c =
    let u = c.in_ok-behind-in-None.field-0-0 in
    let f = c.finished-in-None.ensures in
    let d = c.in_ok-argument.ensures.parsed in
    let w = subst (λ l. Reads c.args.text.now (At loosest) c.loop-spelling.rest.now c.in_ok-argument.argument d.0 l) c.in_ok-behind-in-None.ensures.whole d.1 in
    let g = c.leaf-in-None.ensures in
    let h = c.loop-spelling.invariant.spelled in
    let i = c.in_ok-add_argument.ensures in
    let e : node c.args.name.start (tree.Call (spelling c.args.text.now c.args.name) (c.loop-spelling.arguments ++ c.in_ok-argument.argument ∷ [])) ≡ c.leaf-in-None.result = cc in
    ended (Arguments c.args.name []) c.finished-in-None.result f.e f.rest f.lacks f.stuck f.err
    (subst (λ z. Reads c.args.text.now (Arguments c.args.name []) c.args.tokens.now z false c.in_ok-behind-in-None.behind.now) e (called_end u c.loop-spelling.invariant.called w c.in_ok-behind-in-None.ensures.kind))
    (λ l. stops_atom c.in_ok-behind-in-None.behind.now refl l)
    (bad_call_call u c.loop-spelling.invariant.called w c.in_ok-behind-in-None.ensures.kind)

pub atom-returns-in-Some-clause-parsed : goal.atom-returns-in-Some-clause-parsed
atom-returns-in-Some-clause-parsed t c =
    let f = c.finished.ensures in
    let is : literal c.args.text.now c.args.token c.args.token.kind ≡ Some c.in-Some.e = sym (c.in-Some.ensures c.args.text.now) in
    ended (Operand 0) c.finished.result f.e f.rest f.lacks f.stuck f.err (r_atom c.args.token is) (λ l. stops_atom c.args.more.now refl l) (bad_call_literal c.args.token (λ k. let z = c.if-same_kind-2.ensures.1 k in absurd (cc)) is)

pub atom-returns-in-None-clause-parsed : goal.atom-returns-in-None-clause-parsed
atom-returns-in-None-clause-parsed t c =
    let is : literal c.args.text.now c.args.token c.args.token.kind ≡ None = sym (c.in-None.ensures c.args.text.now) in
    let e : suc (length c.args.more.now) ≡ length c.args.more.now + 1 = omega arith in
    subst (Bad c.args.text.now (Operand 0) (c.args.token ∷ c.args.more.now)) e (bad_atom c.args.token (λ k. let z = c.if-same_kind.ensures.1 k in absurd (cc)) (λ k. let z = c.if-same_kind-2.ensures.1 k in absurd (cc)) is)

pub conditional-returns-in_err-a-clause-parsed : goal.conditional-returns-in_err-a-clause-parsed
conditional-returns-in_err-a-clause-parsed t c =
    let e : c.from_residual.result ≡ Err c.in_err-a.field-0.0 = search rules in
    subst (Answers c.args.text.now (Operand 1) (c.args.token ∷ c.args.more.now)) (sym e) (err_map (Operand 1) (At loosest) c.args.more.now (c.args.token ∷ c.args.more.now) (bad_if c.args.token c.requires) c.in_err-a.field-0.0 c.in_err-a.ensures.parsed)

pub conditional-returns-in_err-rest-clause-parsed : goal.conditional-returns-in_err-rest-clause-parsed
conditional-returns-in_err-rest-clause-parsed t c =
    let d = c.in_ok-a.ensures.parsed in
    let e : c.from_residual-in_err-rest.result ≡ Err (Stuck (length c.in_ok-a.rest.now)) = search rules in
    subst (Answers c.args.text.now (Operand 1) (c.args.token ∷ c.args.more.now)) (sym e) (bad_no_then c.args.token c.requires d.1 d.2 c.in_err-rest.ensures.lacks)

pub conditional-returns-in_err-b-clause-parsed : goal.conditional-returns-in_err-b-clause-parsed
conditional-returns-in_err-b-clause-parsed t c =
    let d = c.in_ok-a.ensures.parsed in
    let r = c.in_ok-rest.ensures in
    let w = subst (λ l. Reads c.args.text.now (At loosest) c.args.more.now c.in_ok-a.a d.0 l) r.whole d.1 in
    let e : c.from_residual-in_err-b.result ≡ Err c.in_err-b.field-0.0 = search rules in
    subst (Answers c.args.text.now (Operand 1) (c.args.token ∷ c.args.more.now)) (sym e) (err_map (Operand 1) (At loosest) c.in_ok-rest.rest.now (c.args.token ∷ c.args.more.now) (bad_then c.args.token c.in_ok-rest.field-0-0 c.requires w r.kind) c.in_err-b.field-0.0 c.in_err-b.ensures.parsed)

pub conditional-returns-in_err-rest-2-clause-parsed : goal.conditional-returns-in_err-rest-2-clause-parsed
conditional-returns-in_err-rest-2-clause-parsed t c =
    let d = c.in_ok-a.ensures.parsed in
    let r = c.in_ok-rest.ensures in
    let w = subst (λ l. Reads c.args.text.now (At loosest) c.args.more.now c.in_ok-a.a d.0 l) r.whole d.1 in
    let d' = c.in_ok-b.ensures.parsed in
    let e : c.from_residual-in_err-rest-2.result ≡ Err (Stuck (length c.in_ok-b.rest.now)) = search rules in
    subst (Answers c.args.text.now (Operand 1) (c.args.token ∷ c.args.more.now)) (sym e) (bad_no_else c.args.token c.in_ok-rest.field-0-0 c.requires w r.kind d'.1 d'.2 c.in_err-rest-2.ensures.lacks)

pub conditional-returns-in_err-c-clause-parsed : goal.conditional-returns-in_err-c-clause-parsed
conditional-returns-in_err-c-clause-parsed t c =
    let d = c.in_ok-a.ensures.parsed in
    let r = c.in_ok-rest.ensures in
    let w = subst (λ l. Reads c.args.text.now (At loosest) c.args.more.now c.in_ok-a.a d.0 l) r.whole d.1 in
    let d' = c.in_ok-b.ensures.parsed in
    let r' = c.in_ok-rest-2.ensures in
    let w' = subst (λ l. Reads c.args.text.now (At loosest) c.in_ok-rest.rest.now c.in_ok-b.b d'.0 l) r'.whole d'.1 in
    let e : c.from_residual-in_err-c.result ≡ Err c.in_err-c.field-0.0 = search rules in
    subst (Answers c.args.text.now (Operand 1) (c.args.token ∷ c.args.more.now)) (sym e) (err_map (Operand 1) (At loosest) c.in_ok-rest-2.rest.now (c.args.token ∷ c.args.more.now) (bad_else c.args.token c.in_ok-rest.field-0-0 c.in_ok-rest-2.field-0-0 c.requires w r.kind w' r'.kind) c.in_err-c.field-0.0 c.in_err-c.ensures.parsed)

pub conditional-returns-clause-parsed : goal.conditional-returns-clause-parsed
conditional-returns-clause-parsed t c =
    let d = c.in_ok-a.ensures.parsed in
    let r = c.in_ok-rest.ensures in
    let w = subst (λ l. Reads c.args.text.now (At loosest) c.args.more.now c.in_ok-a.a d.0 l) r.whole d.1 in
    let d' = c.in_ok-b.ensures.parsed in
    let r' = c.in_ok-rest-2.ensures in
    let w' = subst (λ l. Reads c.args.text.now (At loosest) c.in_ok-rest.rest.now c.in_ok-b.b d'.0 l) r'.whole d'.1 in
    let d'' = c.in_ok-c.ensures.parsed in
    (true, subst (λ z. Reads c.args.text.now (Operand 1) (c.args.token ∷ c.args.more.now) z true c.in_ok-c.rest.now) (sym c.in_ok-cond_of.ensures) (r_if c.args.token c.in_ok-rest.field-0-0 c.in_ok-rest-2.field-0-0 c.requires w r.kind w' r'.kind d''.1), stops_if c.in_ok-c.rest.now d''.2)

pub named-returns-in-Some-clause-parsed : goal.named-returns-in-Some-clause-parsed
named-returns-in-Some-clause-parsed t c =
    subst (λ l. Answers c.args.text.now (Operand 0) (c.args.token ∷ l) c.arguments.result) (sym c.in-Some.ensures.whole) (call_answers c.args.text.now c.in-Some.behind.now c.args.token c.in-Some.field-0-0 c.requires c.in-Some.ensures.kind c.arguments.result c.arguments.ensures.parsed)

pub named-returns-in_ok-name-in-None-clause-parsed : goal.named-returns-in_ok-name-in-None-clause-parsed
named-returns-in_ok-name-in-None-clause-parsed t c =
    let f = c.leaf.ensures in
    let g = c.in_ok-name-in-None.ensures in
    let e : node c.args.token.start (tree.Name (spelling c.args.text.now c.args.token)) ≡ c.leaf.result = cc in
    (false, r_atom c.args.token (ap (literal c.args.text.now c.args.token) c.requires ∙ ap (λ z. Some z) e), stops_atom c.args.more.now refl c.in-None.ensures.whole)

pub nots-returns-in_err-token-clause-parsed : goal.nots-returns-in_err-token-clause-parsed
nots-returns-in_err-token-clause-parsed t c =
    let e : c.from_residual.result ≡ Err (Stuck (length c.args.tokens.now)) = search rules in
    subst (Answers c.args.text.now Nots c.args.tokens.now) (sym e) (bad_nots c.args.tokens.now c.in_err-token.ensures.lacks)

pub nots-returns-in_err-operand-in-Some-clause-parsed : goal.nots-returns-in_err-operand-in-Some-clause-parsed
nots-returns-in_err-operand-in-Some-clause-parsed t c =
    let e : c.from_residual-in_err-operand-in-Some.result ≡ Err c.in_err-operand-in-Some.field-0.0 = search rules in
    subst (Answers c.args.text.now Nots c.args.tokens.now) (sym e) (subst (λ l. Answers c.args.text.now Nots l (Err c.in_err-operand-in-Some.field-0.0)) (sym c.in_ok-token.ensures.whole) (err_map Nots Nots c.in_ok-token.more.now (c.in_ok-token.token ∷ c.in_ok-token.more.now) (bad_more_nots c.in_ok-token.token c.in_ok-token.ensures.kind (record { first = c.in-Some.field-0.0; more = c.in-Some.field-0.1.now; whole = c.in-Some.ensures.whole; is = c.in-Some.ensures.kind })) c.in_err-operand-in-Some.field-0.0 c.in_err-operand-in-Some.ensures.parsed))

pub nots-returns-in_err-operand-in-None-clause-parsed : goal.nots-returns-in_err-operand-in-None-clause-parsed
nots-returns-in_err-operand-in-None-clause-parsed t c =
    let e : c.from_residual-in_err-operand-in-None.result ≡ Err c.in_err-operand-in-None.field-0.0 = search rules in
    subst (Answers c.args.text.now Nots c.args.tokens.now) (sym e) (subst (λ l. Answers c.args.text.now Nots l (Err c.in_err-operand-in-None.field-0.0)) (sym c.in_ok-token.ensures.whole) (err_map Nots (At 1) c.in_ok-token.more.now (c.in_ok-token.token ∷ c.in_ok-token.more.now) (bad_last_not c.in_ok-token.token c.in_ok-token.ensures.kind c.in-None.ensures.whole) c.in_err-operand-in-None.field-0.0 c.in_err-operand-in-None.ensures.parsed))

pub nots-returns-in_ok-one_of-in-Some-clause-parsed : goal.nots-returns-in_ok-one_of-in-Some-clause-parsed
nots-returns-in_ok-one_of-in-Some-clause-parsed t c =
    let d = c.in_ok-operand-in-Some.ensures.parsed in
    (d.0, subst (λ l. Reads c.args.text.now Nots l c.in_ok-one_of-in-Some.field-0 d.0 c.in_ok-operand-in-Some.rest.now) (sym c.in_ok-token.ensures.whole) (subst (λ z. Reads c.args.text.now Nots (c.in_ok-token.token ∷ c.in_ok-token.more.now) z d.0 c.in_ok-operand-in-Some.rest.now) (sym c.in_ok-one_of-in-Some.ensures) (r_more_nots c.in_ok-token.token c.in_ok-token.ensures.kind d.1)), d.2)

pub nots-returns-in_ok-one_of-in-None-clause-parsed : goal.nots-returns-in_ok-one_of-in-None-clause-parsed
nots-returns-in_ok-one_of-in-None-clause-parsed t c =
    let d = c.in_ok-operand-in-None.ensures.parsed in
    (d.0, subst (λ l. Reads c.args.text.now Nots l c.in_ok-one_of-in-None.field-0 d.0 c.in_ok-operand-in-None.rest.now) (sym c.in_ok-token.ensures.whole) (subst (λ z. Reads c.args.text.now Nots (c.in_ok-token.token ∷ c.in_ok-token.more.now) z d.0 c.in_ok-operand-in-None.rest.now) (sym c.in_ok-one_of-in-None.ensures) (r_last_not c.in_ok-token.token c.in_ok-token.ensures.kind d.1)), d.2)

pub operand-returns-in_default-clause-parsed : goal.operand-returns-in_default-clause-parsed
operand-returns-in_default-clause-parsed t c = subst (λ l. Bad c.args.text.now (Operand (front_rank l)) l 0) (sym c.in_default.ensures) bad_nothing

pub parens-returns-in_err-inner-clause-parsed : goal.parens-returns-in_err-inner-clause-parsed
parens-returns-in_err-inner-clause-parsed t c =
    let e : c.from_residual.result ≡ Err c.in_err-inner.field-0.0 = search rules in
    subst (Answers c.args.text.now (Operand 0) (c.args.token ∷ c.args.more.now)) (sym e) (err_map (Operand 0) (At loosest) c.args.more.now (c.args.token ∷ c.args.more.now) (bad_parens c.args.token c.requires) c.in_err-inner.field-0.0 c.in_err-inner.ensures.parsed)

pub parens-returns-in_err-behind-clause-parsed : goal.parens-returns-in_err-behind-clause-parsed
parens-returns-in_err-behind-clause-parsed t c =
    let d = c.in_ok-inner.ensures.parsed in
    let e : c.from_residual-in_err-behind.result ≡ Err (Stuck (length c.in_ok-inner.rest.now)) = search rules in
    subst (Answers c.args.text.now (Operand 0) (c.args.token ∷ c.args.more.now)) (sym e) (bad_no_close c.args.token c.requires d.1 d.2 c.in_err-behind.ensures.lacks)

pub parens-returns-clause-parsed : goal.parens-returns-clause-parsed
parens-returns-clause-parsed t c =
    let f = c.finished.ensures in
    let r = c.in_ok-behind.ensures in
    let d = c.in_ok-inner.ensures.parsed in
    let w = subst (λ l. Reads c.args.text.now (At loosest) c.args.more.now c.in_ok-inner.inner d.0 l) r.whole d.1 in
    ended (Operand 0) c.finished.result f.e f.rest f.lacks f.stuck f.err (r_parens c.args.token c.in_ok-behind.field-0-0 c.requires w r.kind) (λ l. stops_atom c.in_ok-behind.behind.now refl l) (bad_call_parens c.args.token c.in_ok-behind.field-0-0 c.requires w r.kind)

pub prefixed-returns-in_err-operand-clause-parsed : goal.prefixed-returns-in_err-operand-clause-parsed
prefixed-returns-in_err-operand-clause-parsed t c =
    let e : c.from_residual.result ≡ Err c.in_err-operand.field-0.0 = search rules in
    let p = c.if-is_pre_not.ensures.0 refl in
    let f = ap prefix_of p.is_pre in
    let g = c.requires.op in
    let r : 1 ≡ c.args.prefix.rank = cc in
    subst (λ n. Answers c.args.text.now (Operand n) (c.args.token ∷ c.args.more.now) c.from_residual.result) r (subst (Answers c.args.text.now (Operand 1) (c.args.token ∷ c.args.more.now)) (sym e) (err_map (Operand 1) Nots c.args.more.now (c.args.token ∷ c.args.more.now) (bad_pre c.args.token p) c.in_err-operand.field-0.0 c.in_err-operand.ensures.parsed))

pub prefixed-returns-then-is_pre_not-clause-parsed : goal.prefixed-returns-then-is_pre_not-clause-parsed
prefixed-returns-then-is_pre_not-clause-parsed t c =
    let p = c.if-is_pre_not.ensures.0 refl in
    let f = ap prefix_of p.is_pre in
    let g = c.requires.op in
    let r : 1 ≡ c.args.prefix.rank = cc in
    let o : one.Pre ≡ c.args.prefix.op = cc in
    let d = c.in_ok-operand.ensures.parsed in
    (d.0, subst (λ n. Reads c.args.text.now (Operand n) (c.args.token ∷ c.args.more.now) c.in_ok-one_of.field-0 d.0 c.in_ok-operand.rest.now) r (subst (λ z. Reads c.args.text.now (Operand 1) (c.args.token ∷ c.args.more.now) z d.0 c.in_ok-operand.rest.now) (sym c.in_ok-one_of.ensures) (subst (λ z. Reads c.args.text.now (Operand 1) (c.args.token ∷ c.args.more.now) (node c.args.token.start (tree.One z c.in_ok-operand.operand)) d.0 c.in_ok-operand.rest.now) o (r_pre_not c.args.token p.is_pre d.1))), subst (λ n. StopsAt n d.0 c.in_ok-operand.rest.now) r d.2)

pub prefixed-returns-in_err-operand-2-clause-parsed : goal.prefixed-returns-in_err-operand-2-clause-parsed
prefixed-returns-in_err-operand-2-clause-parsed t c =
    let e : c.from_residual-in_err-operand-2.result ≡ Err c.in_err-operand-2.field-0.0 = search rules in
    subst (Answers c.args.text.now (Operand c.args.prefix.rank) (c.args.token ∷ c.args.more.now)) (sym e) (err_map (Operand c.args.prefix.rank) (At c.args.prefix.rank) c.args.more.now (c.args.token ∷ c.args.more.now) (bad_prefix c.args.token c.args.prefix c.requires.op refl (λ k. let z = c.if-is_pre_not.ensures.1 k in absurd (cc))) c.in_err-operand-2.field-0.0 c.in_err-operand-2.ensures.parsed)

pub prefixed-returns-clause-parsed : goal.prefixed-returns-clause-parsed
prefixed-returns-clause-parsed t c =
    let d = c.in_ok-operand-2.ensures.parsed in
    (d.0, subst (λ z. Reads c.args.text.now (Operand c.args.prefix.rank) (c.args.token ∷ c.args.more.now) z d.0 c.in_ok-operand-2.rest.now) (sym c.in_ok-one_of-2.ensures) (r_prefix c.args.token c.args.prefix c.requires.op refl d.1), d.2)

pub ranked-returns-then-rank-level-clause-parsed : goal.ranked-returns-then-rank-level-clause-parsed
ranked-returns-then-rank-level-clause-parsed t c = let f = c.front_rank-level.ensures in bad_rank c.args.tokens.now (omega (arith, f, c.if-rank-level.true))

pub ranked-returns-in_err-left-clause-parsed : goal.ranked-returns-in_err-left-clause-parsed
ranked-returns-in_err-left-clause-parsed t c =
    let f = c.front_rank-level.ensures in
    let e : c.from_residual.result ≡ Err c.in_err-left.field-0.0 = search rules in
    subst (Answers c.args.text.now (At c.args.rank) c.args.tokens.now) (sym e) (err_map (At c.args.rank) (Operand (front_rank c.args.tokens.now)) c.args.tokens.now c.args.tokens.now (bad_operand (omega (arith, f, c.if-rank-level.false))) c.in_err-left.field-0.0 c.in_err-left.ensures.parsed)

pub ranked-loop-token-init : goal.ranked-loop-token-init
ranked-loop-token-init t c =
    let f = c.front_rank-level.ensures in
    let d = c.in_ok-left.ensures.parsed in
    record {
      partway = (d.0, subst (λ n. Partway c.args.text.now c.args.rank n c.args.tokens.now c.in_ok-left.left d.0 c.in_ok-left.rest.now) (sym f) (partway_start (omega (arith, f, c.if-rank-level.false)) d.1 d.2));
      shorter = c.in_ok-left.ensures.shorter;
    }

pub ranked-returns-then-left_rank-level-clause-parsed : goal.ranked-returns-then-left_rank-level-clause-parsed
ranked-returns-then-left_rank-level-clause-parsed t c =
    let p = c.loop-token.invariant.partway in
    let i = c.in-Some.ensures in
    let w = subst (λ l. Partway c.args.text.now c.args.rank c.loop-token.level c.args.tokens.now c.loop-token.left p.0 l) i.whole p.1 in
    let f = c.left_rank.ensures in
    subst (λ l. Bad c.args.text.now (At c.args.rank) c.args.tokens.now (length l)) (sym i.whole) (bad_chain c.in-Some.token c.in-Some.infix i.op (omega (arith, f, c.if-left_rank-level.true)) i.rank w)

pub ranked-returns-in_err-right-clause-parsed : goal.ranked-returns-in_err-right-clause-parsed
ranked-returns-in_err-right-clause-parsed t c =
    let p = c.loop-token.invariant.partway in
    let i = c.in-Some.ensures in
    let q : p.0 ≡ false = closed c.in-Some.token c.in-Some.more.now c.in-Some.infix i.whole i.op p.1.stops in
    let w = subst (λ o. Partway c.args.text.now c.args.rank c.loop-token.level c.args.tokens.now c.loop-token.left o (c.in-Some.token ∷ c.in-Some.more.now)) q (subst (λ l. Partway c.args.text.now c.args.rank c.loop-token.level c.args.tokens.now c.loop-token.left p.0 l) i.whole p.1) in
    let f = c.left_rank.ensures in
    let e : c.from_residual-in_err-right.result ≡ Err c.in_err-right.field-0.0 = search rules in
    let d = subst (λ n. Answers c.args.text.now (At n) c.in-Some.more.now (Err c.in_err-right.field-0.0)) c.right_rank.ensures c.in_err-right.ensures.parsed in
    subst (Answers c.args.text.now (At c.args.rank) c.args.tokens.now) (sym e) (err_map (At c.args.rank) (At (right_rank c.in-Some.infix)) c.in-Some.more.now c.args.tokens.now (bad_right c.in-Some.token c.in-Some.infix i.op (omega (arith, f, c.if-left_rank-level.false)) i.rank w) c.in_err-right.field-0.0 d)

pub ranked-loop-token-preserved : goal.ranked-loop-token-preserved
ranked-loop-token-preserved t c =
    let p = c.loop-token.invariant.partway in
    let i = c.in-Some.ensures in
    let q : p.0 ≡ false = closed c.in-Some.token c.in-Some.more.now c.in-Some.infix i.whole i.op p.1.stops in
    let w = subst (λ o. Partway c.args.text.now c.args.rank c.loop-token.level c.args.tokens.now c.loop-token.left o (c.in-Some.token ∷ c.in-Some.more.now)) q (subst (λ l. Partway c.args.text.now c.args.rank c.loop-token.level c.args.tokens.now c.loop-token.left p.0 l) i.whole p.1) in
    let f = c.left_rank.ensures in
    let d = c.in_ok-right.ensures.parsed in
    let r = subst (λ n. Reads c.args.text.now (At n) c.in-Some.more.now c.in_ok-right.right d.0 c.in_ok-right.behind.now) c.right_rank.ensures d.1 in
    let st = subst (λ n. StopsAt n d.0 c.in_ok-right.behind.now) c.right_rank.ensures d.2 in
    let s = ap length i.whole in
    record {
      partway = (d.0, subst (λ z. Partway c.args.text.now c.args.rank c.in-Some.infix.rank c.args.tokens.now z d.0 c.in_ok-right.behind.now) (sym c.in_ok-left-2.ensures) (partway_more c.in-Some.token c.in-Some.infix i.op (omega (arith, f, c.if-left_rank-level.false)) i.rank w r st));
      shorter = omega (arith, s, c.in_ok-right.ensures.shorter, c.loop-token.invariant.shorter);
    }

pub ranked-returns-clause-parsed : goal.ranked-returns-clause-parsed
ranked-returns-clause-parsed t c =
    let p = c.loop-token.invariant.partway in
    (p.0, partway_end p.1, ends p.1.stops c.in_default.ensures.whole)
