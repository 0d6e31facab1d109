use Rattle.std.proofs.Common.{◌∷◌, ◌++◌, ◌∙◌, [], ap, arith, refl}
use Rattle.std.specs.List.{flat_map}
use Rattle.std.proofs.lemmas.Result.{on_ok_weaker}
use Rattle.lus_types.specs.Names.{globals}
use Rattle.node_expand.specs.Outlines.{callee, callees}
use Rattle.node_expand.proofs.CalleesOf.{both, next, of_call, of_if, of_two, part}
use Rattle.node_expand.proofs.outlines.+callees.Goals as goal

pub add_callees-returns-in_ok-add_callees-in-Two : goal.add_callees-returns-in_ok-add_callees-in-Two
add_callees-returns-in_ok-add_callees-in-Two t c =
    let g = globals c.args.typed.now.ast.decls in
    let a = c.in-Two.a in
    let b = c.in-Two.b in
    on_ok_weaker c.add_callees-in-Two-2.result (λ k. both (callees g a) (callees g b) c.args.callees.now c.add_callees-in-Two.new.callees c.add_callees-in-Two-2.new.callees (callees g c.args.expr.now)
    (of_two g c.args.expr.now a b c.in-Two.field-0 c.in-Two.is)
    (part g c.get-in-Two.result.now a c.args.callees.now c.add_callees-in-Two.new.callees c.get-in-Two.ensures c.in_ok-add_callees-in-Two.ensures)
    (part g c.get-in-Two-2.result.now b c.add_callees-in-Two.new.callees c.add_callees-in-Two-2.new.callees c.get-in-Two-2.ensures k))
    c.add_callees-in-Two-2.ensures

pub add_callees-returns-in_ok-add_callees-in-Cond-2 : goal.add_callees-returns-in_ok-add_callees-in-Cond-2
add_callees-returns-in_ok-add_callees-in-Cond-2 t c =
    let g = globals c.args.typed.now.ast.decls in
    let x = c.in-Cond.a in
    let y = c.in-Cond.b in
    let z = c.in-Cond.c in
    on_ok_weaker c.add_callees-in-Cond-3.result (λ k. both (callees g x) (callees g y ++ callees g z) c.args.callees.now c.add_callees-in-Cond.new.callees c.add_callees-in-Cond-3.new.callees (callees g c.args.expr.now)
    (of_if g c.args.expr.now x y z c.in-Cond.is)
    (part g c.get-in-Cond.result.now x c.args.callees.now c.add_callees-in-Cond.new.callees c.get-in-Cond.ensures c.in_ok-add_callees-in-Cond.ensures)
    (both (callees g y) (callees g z) c.add_callees-in-Cond.new.callees c.add_callees-in-Cond-2.new.callees c.add_callees-in-Cond-3.new.callees (callees g y ++ callees g z) refl
    (part g c.get-in-Cond-2.result.now y c.add_callees-in-Cond.new.callees c.add_callees-in-Cond-2.new.callees c.get-in-Cond-2.ensures c.in_ok-add_callees-in-Cond-2.ensures)
    (part g c.get-in-Cond-3.result.now z c.add_callees-in-Cond-2.new.callees c.add_callees-in-Cond-3.new.callees c.get-in-Cond-3.ensures k)))
    c.add_callees-in-Cond-3.ensures

pub add_callees-returns-in_ok-add_callee-in-Call : goal.add_callees-returns-in_ok-add_callee-in-Call
add_callees-returns-in_ok-add_callee-in-Call t c =
    let g = globals c.args.typed.now.ast.decls in
    let f = c.in-Call.name in
    let args = c.in-Call.args in
    on_ok_weaker c.add_callees_of_args.result (λ k. both (callee g f ∷ []) (flat_map (callees g) args) c.args.callees.now c.add_callee.new.callees c.add_callees_of_args.new.callees (callees g c.args.expr.now)
    (of_call g c.args.expr.now f args c.in-Call.is)
    (c.in_ok-add_callee-in-Call.ensures ∙ ap (λ n. c.args.callees.now ++ callee g n ∷ []) c.bytes.ensures)
    (k ∙ ap (λ l. c.add_callee.new.callees ++ flat_map (callees g) l) c.as_slice.ensures))
    c.add_callees_of_args.ensures

pub add_callees_of_args-loop-arg-preserved : goal.add_callees_of_args-loop-arg-preserved
add_callees_of_args-loop-arg-preserved t c =
    next (globals c.args.typed.now.ast.decls) c.args.args.now c.loop-arg.arg-index c.arg-item.result c.loop-arg.callees c.add_callees.new.callees _
    (omega arith) c.arg-item.is c.loop-arg.invariant c.in_ok-add_callees.ensures
