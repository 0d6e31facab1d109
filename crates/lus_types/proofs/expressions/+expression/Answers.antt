use Rattle.std.proofs.Common.{◌≡◌, ◌∙◌, Option, Result, arith, map, refl, sym, ap}
use Rattle.lus_syntax.specs.declared.ast.Expr.{Expr}
use Rattle.lus_types.specs.declared.fault.TypeFault.{TypeFault}
use Rattle.lus_types.specs.declared.fault.TypeFault.TheVariants.{Memory}
use Rattle.lus_types.specs.declared.types.Position.{Position}
use Rattle.lus_types.specs.declared.types.Position.TheVariants.{Inside}
use Rattle.op_network.specs.declared.value.Ty.{Ty}
use Rattle.lus_types.specs.Checking.{Recursions, Answers, fault_at, fault_in, kind_of}
use Rattle.lus_types.specs.Occurrences.{Scope, Unary, Binary, Conditional, Call, signature_named}
use Rattle.lus_types.specs.Types.{unary_of, binary_of, conditional_of}
use Rattle.lus_types.specs.Views.{scope_seen, recursions}
use Rattle.lus_types.specs.Walk.{expression, arguments, type_of, operand_of, the_one_of, results_of}
use Rattle.lus_types.proofs.Faults.{stopped, after, answered, fault_next, mapped_next, short}
use Rattle.lus_types.proofs.Judging.{fault_one, type_one, fault_two, type_two, fault_cond, type_cond, fault_call, type_call}
use Rattle.lus_types.proofs.expressions.+expression.Goals as goal

abbrev IsType : Scope → Expr → Option Ty → Type 0
IsType s e ty = ty ≡ type_of s e

-- an operand as the code reads it
operand : (r : Recursions) (s : Scope) (p q : Position) (a b : Expr) → p ≡ q → a ≡ b → fault_in r (expression s p a) ≡ fault_in r (expression s q b)
operand r s p q a b h k = (λ i. fault_in r (expression s (h i) (k i)))

-- the answer over the types that the code found is that over the operands' types
as_typed : (f g : Option TypeFault) (u v : Option Ty) (w : Result (Option Ty) TypeFault) → f ≡ g → u ≡ v → Answers f w (λ ty. ty ≡ u) → Answers g w (λ ty. ty ≡ v)
as_typed f g u v w h k answer = answered g f (λ ty. ty ≡ u) (λ ty. ty ≡ v) w (sym h) (λ ty e. e ∙ k) answer

pub check_expression-returns-in_err-a-in-One : goal.check_expression-returns-in_err-a-in-One
check_expression-returns-in_err-a-in-One t c =
    let r = recursions c.args.scope.now.cycles.now in
    let s = scope_seen c.args.scope.now in
    stopped _ _ _ _ c.in_err-a-in-One.field-0.0 (IsType s c.get.result.now) _ c.check_expression.result c.from_residual.result
    (fault_one r s c.args.position c.args.expr.now c.in-One.op c.in-One.a c.in-One.is)
    (operand r s c.operand_of.result (operand_of c.in-One.op) c.get.result.now c.in-One.a c.operand_of.ensures c.get.ensures)
    c.check_expression.ensures c.in_err-a-in-One.was c.from_residual.ensures

pub check_expression-returns-in_ok-a-in-One : goal.check_expression-returns-in_ok-a-in-One
check_expression-returns-in_ok-a-in-One t c =
    let r = recursions c.args.scope.now.cycles.now in
    let s = scope_seen c.args.scope.now in
    let e = c.args.expr.now in
    let op = c.in-One.op in
    let a = c.in_ok-a-in-One.ensures.0 ∙ ap (type_of s) c.get.ensures in
    answered _ _ (λ ty. ty ≡ unary_of op (type_of s c.in-One.a)) _ c.check_unary.result
    (after _ _ _ _ (fault_one r s c.args.position e op c.in-One.a c.in-One.is) (operand r s c.operand_of.result (operand_of op) c.get.result.now c.in-One.a c.operand_of.ensures c.get.ensures) c.in_ok-a-in-One.ensures.1)
    (λ ty h. h ∙ sym (type_one r s c.args.position e op c.in-One.a c.in-One.is))
    (as_typed _ _ _ _ c.check_unary.result (λ i. fault_at e.at (kind_of r (Unary s op (a i)))) (λ i. unary_of op (a i)) c.check_unary.ensures)

pub check_expression-returns-in_err-a-in-Two : goal.check_expression-returns-in_err-a-in-Two
check_expression-returns-in_err-a-in-Two t c =
    let r = recursions c.args.scope.now.cycles.now in
    let s = scope_seen c.args.scope.now in
    stopped _ _ _ _ c.in_err-a-in-Two.field-0.0 (IsType s c.get-in-Two.result.now) _ c.check_expression-in-Two.result c.from_residual-in_err-a-in-Two.result
    (fault_two r s c.args.position c.args.expr.now c.in-Two.op c.in-Two.a c.in-Two.b c.in-Two.is)
    (operand r s Inside Inside c.get-in-Two.result.now c.in-Two.a refl c.get-in-Two.ensures)
    c.check_expression-in-Two.ensures c.in_err-a-in-Two.was c.from_residual-in_err-a-in-Two.ensures

pub check_expression-returns-in_err-b-in-Two : goal.check_expression-returns-in_err-b-in-Two
check_expression-returns-in_err-b-in-Two t c =
    let r = recursions c.args.scope.now.cycles.now in
    let s = scope_seen c.args.scope.now in
    stopped _ _ _ _ c.in_err-b-in-Two.field-0.0 (IsType s c.get-in-Two-2.result.now) _ c.check_expression-in-Two-2.result c.from_residual-in_err-b-in-Two.result
    (after _ _ _ _ (fault_two r s c.args.position c.args.expr.now c.in-Two.op c.in-Two.a c.in-Two.b c.in-Two.is) (operand r s Inside Inside c.get-in-Two.result.now c.in-Two.a refl c.get-in-Two.ensures) c.in_ok-a-in-Two.ensures.1)
    (operand r s Inside Inside c.get-in-Two-2.result.now c.in-Two.b refl c.get-in-Two-2.ensures)
    c.check_expression-in-Two-2.ensures c.in_err-b-in-Two.was c.from_residual-in_err-b-in-Two.ensures

pub check_expression-returns-in_ok-b-in-Two : goal.check_expression-returns-in_ok-b-in-Two
check_expression-returns-in_ok-b-in-Two t c =
    let r = recursions c.args.scope.now.cycles.now in
    let s = scope_seen c.args.scope.now in
    let e = c.args.expr.now in
    let op = c.in-Two.op in
    let a = c.in_ok-a-in-Two.ensures.0 ∙ ap (type_of s) c.get-in-Two.ensures in
    let b = c.in_ok-b-in-Two.ensures.0 ∙ ap (type_of s) c.get-in-Two-2.ensures in
    answered _ _ (λ ty. ty ≡ binary_of op (type_of s c.in-Two.a) (type_of s c.in-Two.b)) _ c.check_binary.result
    (after _ _ _ _ (after _ _ _ _ (fault_two r s c.args.position e op c.in-Two.a c.in-Two.b c.in-Two.is) (operand r s Inside Inside c.get-in-Two.result.now c.in-Two.a refl c.get-in-Two.ensures) c.in_ok-a-in-Two.ensures.1)
    (operand r s Inside Inside c.get-in-Two-2.result.now c.in-Two.b refl c.get-in-Two-2.ensures) c.in_ok-b-in-Two.ensures.1)
    (λ ty h. h ∙ sym (type_two r s c.args.position e op c.in-Two.a c.in-Two.b c.in-Two.is))
    (as_typed _ _ _ _ c.check_binary.result (λ i. fault_at e.at (kind_of r (Binary s op (a i) (b i)))) (λ i. binary_of op (a i) (b i)) c.check_binary.ensures)

pub check_expression-returns-in_err-a-in-Cond : goal.check_expression-returns-in_err-a-in-Cond
check_expression-returns-in_err-a-in-Cond t c =
    let r = recursions c.args.scope.now.cycles.now in
    let s = scope_seen c.args.scope.now in
    stopped _ _ _ _ c.in_err-a-in-Cond.field-0.0 (IsType s c.get-in-Cond.result.now) _ c.check_expression-in-Cond.result c.from_residual-in_err-a-in-Cond.result
    (fault_cond r s c.args.position c.args.expr.now c.in-Cond.a c.in-Cond.b c.in-Cond.c c.in-Cond.is)
    (operand r s Inside Inside c.get-in-Cond.result.now c.in-Cond.a refl c.get-in-Cond.ensures)
    c.check_expression-in-Cond.ensures c.in_err-a-in-Cond.was c.from_residual-in_err-a-in-Cond.ensures

pub check_expression-returns-in_err-b-in-Cond : goal.check_expression-returns-in_err-b-in-Cond
check_expression-returns-in_err-b-in-Cond t c =
    let r = recursions c.args.scope.now.cycles.now in
    let s = scope_seen c.args.scope.now in
    let first = after _ _ _ _ (fault_cond r s c.args.position c.args.expr.now c.in-Cond.a c.in-Cond.b c.in-Cond.c c.in-Cond.is) (operand r s Inside Inside c.get-in-Cond.result.now c.in-Cond.a refl c.get-in-Cond.ensures) c.in_ok-a-in-Cond.ensures.1 in
    stopped _ _ _ _ c.in_err-b-in-Cond.field-0.0 (IsType s c.get-in-Cond-2.result.now) _ c.check_expression-in-Cond-2.result c.from_residual-in_err-b-in-Cond.result
    first (operand r s Inside Inside c.get-in-Cond-2.result.now c.in-Cond.b refl c.get-in-Cond-2.ensures)
    c.check_expression-in-Cond-2.ensures c.in_err-b-in-Cond.was c.from_residual-in_err-b-in-Cond.ensures

pub check_expression-returns-in_err-c-in-Cond : goal.check_expression-returns-in_err-c-in-Cond
check_expression-returns-in_err-c-in-Cond t c =
    let r = recursions c.args.scope.now.cycles.now in
    let s = scope_seen c.args.scope.now in
    let first = after _ _ _ _ (fault_cond r s c.args.position c.args.expr.now c.in-Cond.a c.in-Cond.b c.in-Cond.c c.in-Cond.is) (operand r s Inside Inside c.get-in-Cond.result.now c.in-Cond.a refl c.get-in-Cond.ensures) c.in_ok-a-in-Cond.ensures.1 in
    let second = after _ _ _ _ first (operand r s Inside Inside c.get-in-Cond-2.result.now c.in-Cond.b refl c.get-in-Cond-2.ensures) c.in_ok-b-in-Cond.ensures.1 in
    stopped _ _ _ _ c.in_err-c-in-Cond.field-0.0 (IsType s c.get-in-Cond-3.result.now) _ c.check_expression-in-Cond-3.result c.from_residual-in_err-c-in-Cond.result
    second (operand r s Inside Inside c.get-in-Cond-3.result.now c.in-Cond.c refl c.get-in-Cond-3.ensures)
    c.check_expression-in-Cond-3.ensures c.in_err-c-in-Cond.was c.from_residual-in_err-c-in-Cond.ensures

pub check_expression-returns-in_ok-c-in-Cond : goal.check_expression-returns-in_ok-c-in-Cond
check_expression-returns-in_ok-c-in-Cond t c =
    let r = recursions c.args.scope.now.cycles.now in
    let s = scope_seen c.args.scope.now in
    let e = c.args.expr.now in
    let first = after _ _ _ _ (fault_cond r s c.args.position e c.in-Cond.a c.in-Cond.b c.in-Cond.c c.in-Cond.is) (operand r s Inside Inside c.get-in-Cond.result.now c.in-Cond.a refl c.get-in-Cond.ensures) c.in_ok-a-in-Cond.ensures.1 in
    let second = after _ _ _ _ first (operand r s Inside Inside c.get-in-Cond-2.result.now c.in-Cond.b refl c.get-in-Cond-2.ensures) c.in_ok-b-in-Cond.ensures.1 in
    let third = after _ _ _ _ second (operand r s Inside Inside c.get-in-Cond-3.result.now c.in-Cond.c refl c.get-in-Cond-3.ensures) c.in_ok-c-in-Cond.ensures.1 in
    let a = c.in_ok-a-in-Cond.ensures.0 ∙ ap (type_of s) c.get-in-Cond.ensures in
    let b = c.in_ok-b-in-Cond.ensures.0 ∙ ap (type_of s) c.get-in-Cond-2.ensures in
    let d = c.in_ok-c-in-Cond.ensures.0 ∙ ap (type_of s) c.get-in-Cond-3.ensures in
    answered _ _ (λ ty. ty ≡ conditional_of (type_of s c.in-Cond.a) (type_of s c.in-Cond.b) (type_of s c.in-Cond.c)) _ c.check_conditional.result
    third (λ ty h. h ∙ sym (type_cond r s c.args.position e c.in-Cond.a c.in-Cond.b c.in-Cond.c c.in-Cond.is))
    (as_typed _ _ _ _ c.check_conditional.result (λ i. fault_at e.at (kind_of r (Conditional (a i) (b i) (d i)))) (λ i. conditional_of (a i) (b i) (d i)) c.check_conditional.ensures)

pub check_expression-returns-in_err-tys-in-Call : goal.check_expression-returns-in_err-tys-in-Call
check_expression-returns-in_err-tys-in-Call t c =
    let r = recursions c.args.scope.now.cycles.now in
    let s = scope_seen c.args.scope.now in
    stopped _ _ _ _ c.in_err-tys-in-Call.field-0.0 (λ tys. tys ≡ map (type_of s) c.as_slice.result.now) _ c.check_args.result c.from_residual-in_err-tys-in-Call.result
    (fault_call r s c.args.position c.args.expr.now c.in-Call.name c.in-Call.args c.in-Call.is)
    (ap (λ args. fault_in r (arguments s args)) c.as_slice.ensures)
    c.check_args.ensures c.in_err-tys-in-Call.was c.from_residual-in_err-tys-in-Call.ensures

pub check_expression-returns-in_ok-tys-in-Call : goal.check_expression-returns-in_ok-tys-in-Call
check_expression-returns-in_ok-tys-in-Call t c =
    let r = recursions c.args.scope.now.cycles.now in
    let s = scope_seen c.args.scope.now in
    let e = c.args.expr.now in
    let first = after _ _ _ _ (fault_call r s c.args.position e c.in-Call.name c.in-Call.args c.in-Call.is) (ap (λ args. fault_in r (arguments s args)) c.as_slice.ensures) c.in_ok-tys-in-Call.ensures.1 in
    let name = c.bytes-in-Call.ensures in
    let tys = c.as_slice-in-Call.ensures ∙ c.in_ok-tys-in-Call.ensures.0 ∙ ap (map (type_of s)) c.as_slice.ensures in
    answered _ _ (λ ty. ty ≡ the_one_of (results_of (signature_named s c.in-Call.name) (map (type_of s) c.in-Call.args))) _ c.check_call.result
    first (λ ty h. h ∙ sym (type_call r s c.args.position e c.in-Call.name c.in-Call.args c.in-Call.is))
    (as_typed _ _ _ _ c.check_call.result (λ i. fault_at e.at (kind_of r (Call s c.args.position (name i) (tys i)))) (λ i. the_one_of (results_of (signature_named s (name i)) (tys i))) c.check_call.ensures)

pub check_args-returns-in_err-ty : goal.check_args-returns-in_err-ty
check_args-returns-in_err-ty t c =
    let r = recursions c.args.scope.now.cycles.now in
    let s = scope_seen c.args.scope.now in
    let x = c.arg-item.result in
    stopped _ _ _ _ c.in_err-ty.field-0.0 (IsType s x) _ c.check_expression.result c.from_residual.result
    (c.loop-arg.invariant.1 ∙ fault_next r (arguments s) (expression s Inside) (λ e es. refl) c.args.args.now c.loop-arg.arg-index x (omega arith) c.arg-item.is)
    refl c.check_expression.ensures c.in_err-ty.was c.from_residual.ensures

pub check_args-returns-in_err-add : goal.check_args-returns-in_err-add
check_args-returns-in_err-add t c = short _ _ c.from_residual-in_err-add.result Memory refl c.from_residual-in_err-add.ensures

pub check_args-loop-arg-preserved : goal.check_args-loop-arg-preserved
check_args-loop-arg-preserved t c =
    let r = recursions c.args.scope.now.cycles.now in
    let s = scope_seen c.args.scope.now in
    let x = c.arg-item.result in (
      mapped_next (type_of s) c.args.args.now c.loop-arg.arg-index x x c.add.new.self c.loop-arg.tys c.in_ok-ty.ty (omega arith) c.arg-item.is c.loop-arg.invariant.0 c.in_ok-ty.ensures.0 c.in_ok-add.ensures.ok,
      after _ _ _ _ (c.loop-arg.invariant.1 ∙ fault_next r (arguments s) (expression s Inside) (λ e es. refl) c.args.args.now c.loop-arg.arg-index x (omega arith) c.arg-item.is) refl c.in_ok-ty.ensures.1,
    )
