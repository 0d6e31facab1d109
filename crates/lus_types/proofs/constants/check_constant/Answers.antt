use Rattle.std.proofs.Common.{◌≡◌, ◌∙◌, refl, sym, ap}
use Rattle.lus_types.specs.Checking.{fault_at, constant_kind}
use Rattle.lus_types.specs.Occurrences.{flat}
use Rattle.lus_types.specs.Views.{scope_seen, recursions}
use Rattle.lus_types.specs.Walk.{declared_type, value_type}
use Rattle.lus_types.proofs.Faults.{stopped, after, or_none}
use Rattle.lus_types.proofs.ConstantFaults.{fault_constant}
use Rattle.lus_types.proofs.constants.check_constant.Goals as goal

pub returns-in_err-check_global_name : goal.returns-in_err-check_global_name
returns-in_err-check_global_name c =
    let r = recursions c.args.scope.now.cycles.now in
    let s = scope_seen c.args.scope.now in
    stopped _ _ _ _ c.in_err-check_global_name.field-0.0 (λ done. Unit {0}) _ c.check_global_name.result c.from_residual.result
    (fault_constant r s c.args.at c.args.name.now c.args.ty.now c.args.value.now)
    refl (c.check_global_name.ensures r) c.in_err-check_global_name.was c.from_residual.ensures

pub returns-in_err-ty : goal.returns-in_err-ty
returns-in_err-ty c =
    let r = recursions c.args.scope.now.cycles.now in
    let s = scope_seen c.args.scope.now in
    let first = after _ _ _ _ (fault_constant r s c.args.at c.args.name.now c.args.ty.now c.args.value.now) refl (c.in_ok-check_global_name.ensures r).1 in
    stopped _ _ _ _ c.in_err-ty.field-0.0 (λ tys. tys ≡ declared_type s.globals c.args.ty.now) _ c.check_declared.result c.from_residual-in_err-ty.result
    first refl (c.check_declared.ensures r) c.in_err-ty.was c.from_residual-in_err-ty.ensures

pub returns-in_err-value : goal.returns-in_err-value
returns-in_err-value c =
    let r = recursions c.args.scope.now.cycles.now in
    let s = scope_seen c.args.scope.now in
    let first = after _ _ _ _ (fault_constant r s c.args.at c.args.name.now c.args.ty.now c.args.value.now) refl (c.in_ok-check_global_name.ensures r).1 in
    let second = after _ _ _ _ first refl (c.in_ok-ty.ensures r).1 in
    stopped _ _ _ _ c.in_err-value.field-0.0 (λ tys. tys ≡ value_type s c.args.value.now) _ c.check_value.result c.from_residual-in_err-value.result
    second refl c.check_value.ensures c.in_err-value.was c.from_residual-in_err-value.ensures

pub returns-in_err-fine : goal.returns-in_err-fine
returns-in_err-fine c =
    let r = recursions c.args.scope.now.cycles.now in
    let s = scope_seen c.args.scope.now in
    let first = after _ _ _ _ (fault_constant r s c.args.at c.args.name.now c.args.ty.now c.args.value.now) refl (c.in_ok-check_global_name.ensures r).1 in
    let second = after _ _ _ _ first refl (c.in_ok-ty.ensures r).1 in
    let third = after _ _ _ _ second refl c.in_ok-value.ensures.1 in
    let ty = (c.in_ok-ty.ensures r).0 in
    let value = c.in_ok-value.ensures.0 in
    stopped _ _ _ _ c.in_err-fine.field-0.0 (λ done. Unit {0}) _ c.fine.result c.from_residual-in_err-fine.result
    (third ∙ sym (or_none _)) (ap (fault_at c.args.at) (c.constant_kind.ensures ∙ (λ i. constant_kind (ty i) (value i))))
    c.fine.ensures c.in_err-fine.was c.from_residual-in_err-fine.ensures

pub returns : goal.returns
returns c =
    let r = recursions c.args.scope.now.cycles.now in
    let s = scope_seen c.args.scope.now in
    let first = after _ _ _ _ (fault_constant r s c.args.at c.args.name.now c.args.ty.now c.args.value.now) refl (c.in_ok-check_global_name.ensures r).1 in
    let second = after _ _ _ _ first refl (c.in_ok-ty.ensures r).1 in
    let third = after _ _ _ _ second refl c.in_ok-value.ensures.1 in
    let ty = (c.in_ok-ty.ensures r).0 in
    let value = c.in_ok-value.ensures.0 in (
      c.flat.ensures ∙ ap flat value,
      third ∙ sym (ap (fault_at c.args.at) (c.constant_kind.ensures ∙ (λ i. constant_kind (ty i) (value i)))) ∙ c.in_ok-fine.ensures.1,
    )
