use Rattle.std.proofs.Common.{◌∙◌, ◌+◌, ◌-◌, drop, take, length, map, sym, ap, ap₂, refl, subst}
use Rattle.std.specs.Prelude.{slice_set, IfOk}
use Rattle.lus_syntax.specs.declared.ast.ExprKind.TheVariants as tree
use Rattle.lus_types.specs.Programs.{or_truth, type_of_name}
use Rattle.op_network.specs.declared.edge.Op.TheVariants.{Const, Ite}
use Rattle.op_network.specs.declared.value.Ty.TheVariants as type
use Rattle.op_network.specs.declared.value.Value.TheVariants as value
use Rattle.node_expand.specs.Counts.{own_count_level}
use Rattle.node_expand.specs.Fragments.{const_fragment, edge, first_place, place_level, place_of}
use Rattle.node_expand.specs.declared.making.Work.{Work}
use Rattle.node_expand.specs.Known.{inner_level, results_at}
use Rattle.node_expand.specs.Making.{AreMade, IsMade, all_placing, callees_of, inner, node_of, own, placing, program_of}
use Rattle.node_expand.specs.Outlines.{measure_at, number_of}
use Rattle.node_expand.proofs.Built.{one_built, two_built, if_built, call_built, args_done, sum_done, split_first}
use Rattle.node_expand.proofs.Folds.{folded_name, folded_number, folded_truth}
use Rattle.node_expand.proofs.NamesMade.{const_long, const_behind, name_long, name_behind}
use Rattle.node_expand.proofs.making.+making.Goals as goal

pub make-returns-in-Name-clause-made : goal.make-returns-in-Name-clause-made
make-returns-in-Name-clause-made t c =
    let scope = c.args.scope.now in
    let work = c.args.work.now in
    let at = c.args.base + length work.gates in
    subst (λ f. IfOk c.make_name.result (λ o. IsMade (callees_of scope) f work c.make_name.new.work o))
    (sym (ap (λ p. p at work.inner) (folded_name (place_level (program_of scope) (node_of scope) (callees_of scope) scope.places.now) c.args.expr.now c.bytes.result.now (c.in-Name.is ∙ ap tree.Name (sym c.bytes.ensures)))))
    (c.make_name.ensures (callees_of scope))

pub make-returns-in-Number-clause-made : goal.make-returns-in-Number-clause-made
make-returns-in-Number-clause-made t c =
    let scope = c.args.scope.now in
    let work = c.args.work.now in
    let at = c.args.base + length work.gates in
    subst (λ f. IfOk c.make_const.result (λ o. IsMade (callees_of scope) f work c.make_const.new.work o))
    (ap (λ v. const_fragment (record { op = Const v; ty = type.Word }) at) c.literal.ensures
    ∙ sym (ap (λ p. p at work.inner) (folded_number (place_level (program_of scope) (node_of scope) (callees_of scope) scope.places.now) c.args.expr.now c.in-Number.n c.in-Number.is)))
    (c.make_const.ensures (callees_of scope))

pub make-returns-in-Name-clause-long : goal.make-returns-in-Name-clause-long
make-returns-in-Name-clause-long t c =
    let scope = c.args.scope.now in
    let x = c.bytes.result.now in
    name_long (program_of scope) (node_of scope) c.args.expr.now x (or_truth (type_of_name (program_of scope) (node_of scope) x)) (place_of scope.places.now x) (c.args.base + length c.args.work.now.gates) c.args.work.now c.make_name.new.work c.make_name.result (c.in-Name.is ∙ ap tree.Name (sym c.bytes.ensures)) c.make_name.ensures

pub make-returns-in-Name-clause-behind : goal.make-returns-in-Name-clause-behind
make-returns-in-Name-clause-behind t c =
    let scope = c.args.scope.now in
    let x = c.bytes.result.now in
    name_behind (callees_of scope) (program_of scope) (node_of scope) c.args.expr.now x (or_truth (type_of_name (program_of scope) (node_of scope) x)) (place_of scope.places.now x) (c.args.base + length c.args.work.now.gates) c.args.work.now c.make_name.new.work c.make_name.result (c.in-Name.is ∙ ap tree.Name (sym c.bytes.ensures)) c.make_name.ensures

pub make-returns-in-Number-clause-long : goal.make-returns-in-Number-clause-long
make-returns-in-Number-clause-long t c =
    const_long (own c.args.scope.now c.args.expr.now) _ _ c.args.work.now c.make_const.new.work c.make_const.result (folded_number (own_count_level (program_of c.args.scope.now) (node_of c.args.scope.now)) c.args.expr.now c.in-Number.n c.in-Number.is) c.make_const.ensures

pub make-returns-in-Number-clause-behind : goal.make-returns-in-Number-clause-behind
make-returns-in-Number-clause-behind t c =
    const_behind (inner c.args.scope.now c.args.expr.now) _ _ c.args.work.now c.make_const.new.work c.make_const.result (folded_number (inner_level (callees_of c.args.scope.now)) c.args.expr.now c.in-Number.n c.in-Number.is) c.make_const.ensures

pub make-returns-in-Truth-clause-long : goal.make-returns-in-Truth-clause-long
make-returns-in-Truth-clause-long t c =
    const_long (own c.args.scope.now c.args.expr.now) _ _ c.args.work.now c.make_const-in-Truth.new.work c.make_const-in-Truth.result (folded_truth (own_count_level (program_of c.args.scope.now) (node_of c.args.scope.now)) c.args.expr.now c.in-Truth.truth c.in-Truth.is) c.make_const-in-Truth.ensures

pub make-returns-in-Truth-clause-behind : goal.make-returns-in-Truth-clause-behind
make-returns-in-Truth-clause-behind t c =
    const_behind (inner c.args.scope.now c.args.expr.now) _ _ c.args.work.now c.make_const-in-Truth.new.work c.make_const-in-Truth.result (folded_truth (inner_level (callees_of c.args.scope.now)) c.args.expr.now c.in-Truth.truth c.in-Truth.is) c.make_const-in-Truth.ensures

pub make_one-returns-clause-made : goal.make_one-returns-clause-made
make_one-returns-clause-made t c =
    let scope = c.args.scope.now in
    one_built (callees_of scope) c.args.op (placing scope c.args.a.now)
    c.args.work.now (record { gates = c.add.new.gates; calls = c.args.work.now.calls; inner = c.args.work.now.inner }) c.make.new.work (record { gates = c.put.new.gates; calls = c.make.new.work.calls; inner = c.make.new.work.inner })
    (record { op = Const (value.Truth _); ty = type.Truth }) c.args.base c.in_ok-root.root c.in_ok-a.a _
    c.in_ok-root.ensures.gates refl refl c.in_ok-root.ensures.edge c.in_ok-a.ensures.made
    (c.put.ensures ∙ ap₂ (λ o u. slice_set c.make.new.work.gates (c.in_ok-root.root - c.args.base) (record { op = o; ty = u })) c.op_of_one.ensures c.type_of_one-ty.ensures) refl refl
    refl c.type_of_one-ty.ensures

pub make_two-returns-clause-made : goal.make_two-returns-clause-made
make_two-returns-clause-made t c =
    let scope = c.args.scope.now in
    two_built (callees_of scope) c.args.op (placing scope c.args.a.now) (placing scope c.args.b.now)
    c.args.work.now (record { gates = c.add.new.gates; calls = c.args.work.now.calls; inner = c.args.work.now.inner }) c.make.new.work c.make-2.new.work (record { gates = c.put.new.gates; calls = c.make-2.new.work.calls; inner = c.make-2.new.work.inner })
    (record { op = Const (value.Truth _); ty = type.Truth }) c.args.base c.in_ok-root.root c.in_ok-a.a c.in_ok-b.b _
    c.in_ok-root.ensures.gates refl refl c.in_ok-root.ensures.edge c.in_ok-a.ensures.made c.in_ok-b.ensures.made
    (c.put.ensures ∙ ap₂ (λ o u. slice_set c.make-2.new.work.gates (c.in_ok-root.root - c.args.base) (record { op = o; ty = u })) c.op_of_two.ensures c.type_of_two-ty.ensures) refl refl
    refl c.type_of_two-ty.ensures

pub make_if-returns-clause-made : goal.make_if-returns-clause-made
make_if-returns-clause-made t c =
    let scope = c.args.scope.now in
    if_built (callees_of scope) (placing scope c.args.a.now) (placing scope c.args.b.now) (placing scope c.args.c.now)
    c.args.work.now (record { gates = c.add.new.gates; calls = c.args.work.now.calls; inner = c.args.work.now.inner }) c.make.new.work c.make-2.new.work c.make-3.new.work (record { gates = c.put.new.gates; calls = c.make-3.new.work.calls; inner = c.make-3.new.work.inner })
    (record { op = Const (value.Truth _); ty = type.Truth }) c.args.base c.in_ok-root.root c.in_ok-a.a c.in_ok-b.b c.in_ok-c.c _
    c.in_ok-root.ensures.gates refl refl c.in_ok-root.ensures.edge c.in_ok-a.ensures.made c.in_ok-b.ensures.made c.in_ok-c.ensures.made
    (c.put.ensures ∙ ap (λ u. slice_set c.make-3.new.work.gates (c.in_ok-root.root - c.args.base) (record { op = Ite (edge c.in_ok-a.a.edge) (edge c.in_ok-b.b.edge) (edge c.in_ok-c.c.edge); ty = u })) c.type_of_if-ty.ensures) refl refl refl c.type_of_if-ty.ensures

pub make_call-returns-clause-made : goal.make_call-returns-clause-made
make_call-returns-clause-made t c =
    let scope = c.args.scope.now in
    let callees = callees_of scope in
    let mid : Work = record { gates = c.args.work.now.gates; calls = c.add.new.self; inner = c.args.work.now.inner + c.size_at.result } in
    call_built (program_of scope) (node_of scope) callees scope.places.now c.args.name.now (map (placing scope) c.args.args.now)
    c.args.work.now mid c.make_args.new.work (record { gates = c.make_args.new.work.gates; calls = c.put_call.new.calls; inner = c.make_args.new.work.inner })
    (record { node = c.in_ok-from_bytes.field-0; args = c.new.result }) c.make_args.new.values c.args.base c.len-place.result _
    refl c.in_ok-add.ensures.ok (ap (λ k. c.args.work.now.inner + k) (c.size_at.ensures ∙ ap₂ (λ s o. number_of (measure_at s o)) c.as_slice.ensures c.node_named-callee.ensures)) c.len-place.ensures
    (subst (λ v. AreMade callees (all_placing scope c.args.args.now (c.args.base + length c.args.work.now.gates) (c.args.work.now.inner + c.size_at.result)) mid c.make_args.new.work v c.make_args.new.values) c.new-values.ensures c.in_ok-make_args.ensures.made)
    refl (c.put_call.ensures ∙ ap (λ n. slice_set c.make_args.new.work.calls c.len-place.result (record { node = n; args = c.make_args.new.values })) c.in_ok-from_bytes-2.ensures) refl
    (c.first_result.ensures ∙ ap (λ o. first_place (map (λ k. c.args.work.now.inner + k) (results_at scope.tables.now.results o))) c.node_named-callee.ensures)
    c.result_type.ensures

pub make_args-returns-in_ok-add-in-len1-up-clause-made : goal.make_args-returns-in_ok-add-in-len1-up-clause-made
make_args-returns-in_ok-add-in-len1-up-clause-made t c =
    let scope = c.args.scope.now in
    args_done (program_of scope) (node_of scope) (callees_of scope) scope.places.now (placing scope) c.args.args.now (take (length c.args.args.now - 1) (drop 1 c.args.args.now)) c.arg-item.result c.make_args.result
    c.args.work.now c.make.new.work c.make_args.new.work c.args.values.now c.add.new.self c.make_args.new.values c.args.base c.in_ok-a-in-len1-up.a
    (split_first c.args.args.now c.arg-item.result c.in-len1-up.len_at_least c.arg-item.is) c.in_ok-a-in-len1-up.ensures.made c.in_ok-add-in-len1-up.ensures.ok c.make_args.ensures.made

pub make_args-returns-in_ok-add-in-len1-up-clause-long : goal.make_args-returns-in_ok-add-in-len1-up-clause-long
make_args-returns-in_ok-add-in-len1-up-clause-long t c = sum_done (own c.args.scope.now) c.args.args.now (take (length c.args.args.now - 1) (drop 1 c.args.args.now)) c.arg-item.result c.make_args.result (length c.args.work.now.gates) (length c.make.new.work.gates) (length c.make_args.new.work.gates) (split_first c.args.args.now c.arg-item.result c.in-len1-up.len_at_least c.arg-item.is) c.in_ok-a-in-len1-up.ensures.long c.make_args.ensures.long

pub make_args-returns-in_ok-add-in-len1-up-clause-behind : goal.make_args-returns-in_ok-add-in-len1-up-clause-behind
make_args-returns-in_ok-add-in-len1-up-clause-behind t c = sum_done (inner c.args.scope.now) c.args.args.now (take (length c.args.args.now - 1) (drop 1 c.args.args.now)) c.arg-item.result c.make_args.result c.args.work.now.inner c.make.new.work.inner c.make_args.new.work.inner (split_first c.args.args.now c.arg-item.result c.in-len1-up.len_at_least c.arg-item.is) c.in_ok-a-in-len1-up.ensures.behind c.make_args.ensures.behind
