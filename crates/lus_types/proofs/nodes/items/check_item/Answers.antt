use Rattle.std.proofs.Common.{◌≡◌, ◌∙◌, ◌++◌, refl, sym, ap, subst, append-nil}
use Rattle.lus_types.specs.Checking.{Answers, fault_in, fault_at, assertion_kind, equation_kind}
use Rattle.lus_types.specs.Names.{left_of, spot_names}
use Rattle.lus_types.specs.Views.{scope_seen, recursions, variables_seen}
use Rattle.lus_types.specs.Walk.{left_names, left_types, type_of, judge}
use Rattle.lus_types.proofs.Faults.{stopped, after, answered}
use Rattle.lus_types.proofs.OneItem.{fault_assert, fault_equation}
use Rattle.lus_types.proofs.nodes.items.check_item.Goals as goal

pub returns-in_err-ty-in-Assert : goal.returns-in_err-ty-in-Assert
returns-in_err-ty-in-Assert c =
    let r = recursions c.args.scope.now.cycles.now in
    let s = scope_seen c.args.scope.now in
    stopped _ _ _ _ c.in_err-ty-in-Assert.field-0.0 (λ ty. ty ≡ type_of s c.in-Assert.expr) _ c.check_expression.result c.from_residual.result
    (fault_assert r s (variables_seen c.args.variables.now) c.args.defined.now c.args.item.now c.in-Assert.at c.in-Assert.expr c.in-Assert.is)
    refl c.check_expression.ensures c.in_err-ty-in-Assert.was c.from_residual.ensures

pub returns-in_ok-ty-in-Assert : goal.returns-in_ok-ty-in-Assert
returns-in_ok-ty-in-Assert c =
    let r = recursions c.args.scope.now.cycles.now in
    let s = scope_seen c.args.scope.now in
    let i = c.in-Assert in
    answered _ _ (λ done. Unit {0}) _ c.fine.result
    (after _ _ _ _ (fault_assert r s (variables_seen c.args.variables.now) c.args.defined.now c.args.item.now i.at i.expr i.is) refl c.in_ok-ty-in-Assert.ensures.1)
    (λ done u. sym (append-nil c.args.defined.now) ∙ ap (λ j. c.args.defined.now ++ left_of j) (sym i.is))
    (subst (λ k. Answers (fault_at i.at k) c.fine.result (λ done. Unit {0})) (c.assertion_kind.ensures ∙ ap assertion_kind c.in_ok-ty-in-Assert.ensures.0) c.fine.ensures)

pub returns-in_err-left-in-Equation : goal.returns-in_err-left-in-Equation
returns-in_err-left-in-Equation c =
    let r = recursions c.args.scope.now.cycles.now in
    let s = scope_seen c.args.scope.now in
    let vs = variables_seen c.args.variables.now in
    let i = c.in-Equation in
    stopped _ _ _ _ c.in_err-left-in-Equation.field-0.0 (λ tys. (tys ≡ left_types vs c.as_slice.result.now) × (c.check_left.new.defined ≡ c.args.defined.now ++ spot_names c.as_slice.result.now)) _ c.check_left.result c.from_residual-in_err-left-in-Equation.result
    (fault_equation r s vs c.args.defined.now c.args.item.now i.at i.left i.expr i.is) (ap (λ names. fault_in r (left_names vs c.args.defined.now names)) c.as_slice.ensures)
    c.check_left.ensures c.in_err-left-in-Equation.was c.from_residual-in_err-left-in-Equation.ensures

pub returns-in_err-right-in-Equation : goal.returns-in_err-right-in-Equation
returns-in_err-right-in-Equation c =
    let r = recursions c.args.scope.now.cycles.now in
    let s = scope_seen c.args.scope.now in
    let vs = variables_seen c.args.variables.now in
    let i = c.in-Equation in
    let first = after _ _ _ _ (fault_equation r s vs c.args.defined.now c.args.item.now i.at i.left i.expr i.is) (ap (λ names. fault_in r (left_names vs c.args.defined.now names)) c.as_slice.ensures) c.in_ok-left-in-Equation.ensures.1 in
    stopped _ _ _ _ c.in_err-right-in-Equation.field-0.0 (λ tys. tys ≡ (judge s i.expr).right) _ c.check_right.result c.from_residual-in_err-right-in-Equation.result
    first refl c.check_right.ensures c.in_err-right-in-Equation.was c.from_residual-in_err-right-in-Equation.ensures

pub returns-in_ok-right-in-Equation : goal.returns-in_ok-right-in-Equation
returns-in_ok-right-in-Equation c =
    let r = recursions c.args.scope.now.cycles.now in
    let s = scope_seen c.args.scope.now in
    let vs = variables_seen c.args.variables.now in
    let i = c.in-Equation in
    let first = after _ _ _ _ (fault_equation r s vs c.args.defined.now c.args.item.now i.at i.left i.expr i.is) (ap (λ names. fault_in r (left_names vs c.args.defined.now names)) c.as_slice.ensures) c.in_ok-left-in-Equation.ensures.1 in
    let second = after _ _ _ _ first refl c.in_ok-right-in-Equation.ensures.1 in
    let left = c.as_slice-in-Equation.ensures ∙ c.in_ok-left-in-Equation.ensures.0.0 ∙ ap (left_types vs) c.as_slice.ensures in
    let right = c.in_ok-right-in-Equation.ensures.0 in
    let kind = c.equation_kind.ensures ∙ (λ j. equation_kind (left j) (right j)) in
    answered _ _ (λ done. Unit {0}) _ c.fine-in-Equation.result second
    (λ done u. c.in_ok-left-in-Equation.ensures.0.1 ∙ ap (λ names. c.args.defined.now ++ spot_names names) c.as_slice.ensures ∙ ap (λ j. c.args.defined.now ++ left_of j) (sym i.is))
    (subst (λ k. Answers (fault_at i.at k) c.fine-in-Equation.result (λ done. Unit {0})) kind c.fine-in-Equation.ensures)
