use Rattle.std.proofs.Common.{◌++◌, arith, refl}
use Rattle.std.proofs.lemmas.Result.{on_ok_weaker}
use Rattle.lus_types.specs.Calls.{called_names}
use Rattle.lus_types.specs.Views.{globals_seen}
use Rattle.lus_types.proofs.CallRows.{both_parts, next_part, part, call_parts}
use Rattle.lus_types.proofs.Trees.{called_two, called_cond}
use Rattle.lus_types.proofs.calls.callees.+callees.Goals as goal

pub add_from-returns-in_ok-add_from-in-Two-clause-ok : goal.add_from-returns-in_ok-add_from-in-Two-clause-ok
add_from-returns-in_ok-add_from-in-Two-clause-ok t c =
    let g = globals_seen c.args.names.now in
    let e = c.args.expr.now in
    let a = c.in-Two.a in
    let b = c.in-Two.b in
    on_ok_weaker c.add_from-in-Two-2.result (λ k. both_parts g (called_names a) (called_names b) (called_names e) c.args.row.now c.add_from-in-Two.new.row c.add_from-in-Two-2.new.row (called_two e c.in-Two.field-0 a b c.in-Two.is)
    (part g c.get-in-Two.result.now a c.args.row.now c.add_from-in-Two.new.row c.get-in-Two.ensures c.in_ok-add_from-in-Two.ensures.ok)
    (part g c.get-in-Two-2.result.now b c.add_from-in-Two.new.row c.add_from-in-Two-2.new.row c.get-in-Two-2.ensures k))
    c.add_from-in-Two-2.ensures.ok

pub add_from-returns-in_ok-add_from-in-Cond-2-clause-ok : goal.add_from-returns-in_ok-add_from-in-Cond-2-clause-ok
add_from-returns-in_ok-add_from-in-Cond-2-clause-ok t c =
    let g = globals_seen c.args.names.now in
    let e = c.args.expr.now in
    let x = c.in-Cond.a in
    let y = c.in-Cond.b in
    let z = c.in-Cond.c in
    on_ok_weaker c.add_from-in-Cond-3.result (λ k. both_parts g (called_names x) (called_names y ++ called_names z) (called_names e) c.args.row.now c.add_from-in-Cond.new.row c.add_from-in-Cond-3.new.row (called_cond e x y z c.in-Cond.is)
    (part g c.get-in-Cond.result.now x c.args.row.now c.add_from-in-Cond.new.row c.get-in-Cond.ensures c.in_ok-add_from-in-Cond.ensures.ok)
    (both_parts g (called_names y) (called_names z) (called_names y ++ called_names z) c.add_from-in-Cond.new.row c.add_from-in-Cond-2.new.row c.add_from-in-Cond-3.new.row refl
    (part g c.get-in-Cond-2.result.now y c.add_from-in-Cond.new.row c.add_from-in-Cond-2.new.row c.get-in-Cond-2.ensures c.in_ok-add_from-in-Cond-2.ensures.ok)
    (part g c.get-in-Cond-3.result.now z c.add_from-in-Cond-2.new.row c.add_from-in-Cond-3.new.row c.get-in-Cond-3.ensures k)))
    c.add_from-in-Cond-3.ensures.ok

pub add_from-returns-in_ok-add_from_args-in-Call-clause-ok : goal.add_from-returns-in_ok-add_from_args-in-Call-clause-ok
add_from-returns-in_ok-add_from_args-in-Call-clause-ok t c =
    on_ok_weaker c.add_callee.result (λ k. call_parts (globals_seen c.args.names.now) c.args.expr.now c.in-Call.name c.bytes.result.now c.in-Call.args c.as_slice.result.now c.args.row.now c.add_from_args.new.row c.add_callee.new.row
    c.in-Call.is c.as_slice.ensures c.bytes.ensures c.in_ok-add_from_args-in-Call.ensures.ok k)
    c.add_callee.ensures.ok

pub add_from_args-loop-arg-preserved : goal.add_from_args-loop-arg-preserved
add_from_args-loop-arg-preserved t c =
    next_part called_names (globals_seen c.args.names.now) c.args.args.now c.loop-arg.arg-index c.arg-item.result c.args.row.now c.loop-arg.row c.add_from.new.row (omega arith) c.arg-item.is c.loop-arg.invariant c.in_ok-add_from.ensures.ok
