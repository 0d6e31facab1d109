use Rattle.std.proofs.Common.{true, map, refl, arith}
use Rattle.std.proofs.lemmas.Result.{on_ok_weaker}
use Rattle.lus_syntax.specs.Phrases.{argument, arguments, phrase}
use Rattle.lus_syntax.proofs.Writing.{step, grows}
use Rattle.lus_syntax.proofs.Operands.{put_two, put_cond, put_call}
use Rattle.lus_syntax.proofs.printing.expressions.+put_expr.Goals as goal

pub put_expr-returns-in_ok-put_operator-in-Two-clause-ok : goal.put_expr-returns-in_ok-put_operator-in-Two-clause-ok
put_expr-returns-in_ok-put_operator-in-Two-clause-ok t c =
    on_ok_weaker c.put_operand-in-Two-2.result (λ last. put_two _ _ _ _ c.args.expr.now _ _ _ _ c.in-Two.op _ _ _ c.in-Two.is c.get-a-in-Two.ensures c.get-b.ensures c.fits_left.ensures c.in_ok-put_operand-in-Two.ensures.ok c.two_kind.ensures c.in_ok-put_operator-in-Two.ensures.ok c.fits_right.ensures last) c.put_operand-in-Two-2.ensures.ok

pub put_expr-returns-in_ok-put_word-in-Cond-3-clause-ok : goal.put_expr-returns-in_ok-put_word-in-Cond-3-clause-ok
put_expr-returns-in_ok-put_word-in-Cond-3-clause-ok t c =
    on_ok_weaker c.put_expr-in-Cond-2.result (λ last. put_cond _ _ _ _ _ _ _ c.args.expr.now _ _ _ _ _ _ c.in-Cond.is c.get-a-in-Cond.ensures c.get-b-in-Cond.ensures c.get-c.ensures c.in_ok-put_word-in-Cond.ensures.ok c.in_ok-put_expr-in-Cond.ensures.ok c.in_ok-put_word-in-Cond-2.ensures.ok c.in_ok-put_expr-in-Cond-2.ensures.ok c.in_ok-put_word-in-Cond-3.ensures.ok last) c.put_expr-in-Cond-2.ensures.ok

pub put_expr-returns-in_ok-put_arguments-in-Call-clause-ok : goal.put_expr-returns-in_ok-put_arguments-in-Call-clause-ok
put_expr-returns-in_ok-put_arguments-in-Call-clause-ok t c =
    on_ok_weaker c.put_sign-in-Call.result (λ last. put_call _ _ _ _ _ c.args.expr.now _ _ _ _ c.in-Call.is c.bytes-in-Call.ensures c.as_slice.ensures c.in_ok-put_name-in-Call.ensures.ok c.in_ok-put_sign-in-Call.ensures.ok c.in_ok-put_arguments-in-Call.ensures.ok last) c.put_sign-in-Call.ensures.ok

pub put_arguments-loop-arg-preserved : goal.put_arguments-loop-arg-preserved
put_arguments-loop-arg-preserved t c = record {
  ahead = step (λ e. argument c.loop-arg.later (phrase e)) (λ es. arguments c.loop-arg.later (map phrase es)) (λ es. arguments true (map phrase es)) (λ x xs. refl) _ _ _ c.args.args.now c.loop-arg.arg-index c.arg-item.result (omega (arith, c.loop-arg-test.true)) c.arg-item.is c.in_ok-put_argument.ensures.ok c.loop-arg.invariant.ahead;
  kept = grows _ _ _ (argument c.loop-arg.later (phrase c.arg-item.result)) c.loop-arg.invariant.kept c.in_ok-put_argument.ensures.ok;
}
