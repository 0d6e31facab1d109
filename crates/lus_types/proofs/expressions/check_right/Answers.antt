use Rattle.std.proofs.Common.{◌≡◌, ◌∙◌, IfOk, sym, ap, map, subst}
use Rattle.lus_types.specs.declared.types.Position.TheVariants.{Whole}
use Rattle.lus_types.specs.Checking.{fault_in, fault_at, kind_of}
use Rattle.lus_types.specs.Occurrences.{Call, signature_named}
use Rattle.lus_types.specs.Views.{scope_seen, recursions}
use Rattle.lus_types.specs.Walk.{arguments, type_of, results_of}
use Rattle.lus_types.proofs.Faults.{stopped, after, only_short, or_none}
use Rattle.lus_types.proofs.Judging.{fault_call, right_call}
use Rattle.lus_types.proofs.expressions.check_right.Goals as goal

pub returns-in_err-args-in-Call : goal.returns-in_err-args-in-Call
returns-in_err-args-in-Call c =
    let r = recursions c.args.scope.now.cycles.now in
    let s = scope_seen c.args.scope.now in
    stopped _ _ _ _ c.in_err-args-in-Call.field-0.0 (λ tys. tys ≡ map (type_of s) c.as_slice.result.now) _ c.check_args.result c.from_residual.result
    (fault_call r s Whole c.args.expr.now c.in-Call.name c.in-Call.args c.in-Call.is)
    (ap (λ args. fault_in r (arguments s args)) c.as_slice.ensures)
    c.check_args.ensures c.in_err-args-in-Call.was c.from_residual.ensures

pub returns-in_err-fine-in-Call : goal.returns-in_err-fine-in-Call
returns-in_err-fine-in-Call c =
    let r = recursions c.args.scope.now.cycles.now in
    let s = scope_seen c.args.scope.now in
    let e = c.args.expr.now in
    let first = after _ _ _ _ (fault_call r s Whole e c.in-Call.name c.in-Call.args c.in-Call.is) (ap (λ args. fault_in r (arguments s args)) c.as_slice.ensures) c.in_ok-args-in-Call.ensures.1 in
    let name = c.bytes.ensures in
    let tys = c.as_slice-in-Call.ensures ∙ c.in_ok-args-in-Call.ensures.0 ∙ ap (map (type_of s)) c.as_slice.ensures in
    stopped _ _ _ _ c.in_err-fine-in-Call.field-0.0 (λ done. Unit {0}) _ c.fine.result c.from_residual-in_err-fine-in-Call.result
    (first ∙ sym (or_none _))
    (ap (fault_at e.at) c.call_kind.ensures ∙ (λ i. fault_at e.at (kind_of r (Call s Whole (name i) (tys i)))))
    c.fine.ensures c.in_err-fine-in-Call.was c.from_residual-in_err-fine-in-Call.ensures

pub returns-in_ok-fine-in-Call : goal.returns-in_ok-fine-in-Call
returns-in_ok-fine-in-Call c =
    let r = recursions c.args.scope.now.cycles.now in
    let s = scope_seen c.args.scope.now in
    let e = c.args.expr.now in
    let first = after _ _ _ _ (fault_call r s Whole e c.in-Call.name c.in-Call.args c.in-Call.is) (ap (λ args. fault_in r (arguments s args)) c.as_slice.ensures) c.in_ok-args-in-Call.ensures.1 in
    let name = c.bytes.ensures in
    let again = c.bytes-in-Call.ensures in
    let tys = c.as_slice-in-Call.ensures ∙ c.in_ok-args-in-Call.ensures.0 ∙ ap (map (type_of s)) c.as_slice.ensures in
    let more = c.as_slice-in-Call-2.ensures ∙ c.in_ok-args-in-Call.ensures.0 ∙ ap (map (type_of s)) c.as_slice.ensures in
    let none = first ∙ sym (ap (fault_at e.at) c.call_kind.ensures ∙ (λ i. fault_at e.at (kind_of r (Call s Whole (name i) (tys i))))) ∙ c.in_ok-fine-in-Call.ensures.1 in
    let right = (λ i. results_of (signature_named s (again i)) (more i)) ∙ sym (right_call r s Whole e c.in-Call.name c.in-Call.args c.in-Call.is) in
    only_short _ _ c.results_of.result none (subst (λ w. IfOk c.results_of.result (λ tys. tys ≡ w)) right c.results_of.ensures.ok) c.results_of.ensures.err
