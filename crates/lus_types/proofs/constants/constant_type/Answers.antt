use Rattle.std.proofs.Common.{◌≡◌, ◌∙◌, None, true, cond, is_some, sym, ap}
use Rattle.lus_types.specs.Checking.{fault_in}
use Rattle.lus_types.specs.Constants as spec
use Rattle.lus_types.specs.Occurrences.{flat, in_constant, is_missing}
use Rattle.lus_types.specs.Views.{scope_seen, recursions, table_seen}
use Rattle.lus_types.specs.Walk.{constant, value_type}
use Rattle.lus_types.proofs.CallsOf.{none_recursive}
use Rattle.lus_types.proofs.Faults.{failed}
use Rattle.lus_types.proofs.Known.{any_fails}
use Rattle.lus_types.proofs.constants.constant_type.Goals as goal

pub returns-in-Ok-clause-ok : goal.returns-in-Ok-clause-ok
returns-in-Ok-clause-ok c =
    let s = scope_seen c.args.scope.now in
    let d = c.in-ConstDecl in
    let os = constant s d.at d.name d.ty d.value in
    let a = c.in-Ok.ensures in
    let r = recursions c.args.scope.now.cycles.now in
    let here : in_constant s ≡ true = ap (λ vs. is_missing (table_seen vs)) c.requires.no_variables in
    let none = any_fails r os (none_recursive r s here d.at d.name d.ty d.value) ∙ ap is_some a.1 in
    a.0 ∙ sym (ap (spec.constant_type s) d.is ∙ ap (λ b. cond b None (flat (value_type s d.value))) none)

pub returns-in-Err-Bad-clause-ok : goal.returns-in-Err-Bad-clause-ok
returns-in-Err-Bad-clause-ok c =
    let s = scope_seen c.args.scope.now in
    let d = c.in-ConstDecl in
    let os = constant s d.at d.name d.ty d.value in
    let r = recursions c.args.scope.now.cycles.now in
    let found = failed (fault_in r os) c.check_constant.result c.in-Err-Bad.field-0 c.in-Err-Bad.field-0-0 c.in-Err-Bad.field-0-1 (λ ty. ty ≡ flat (value_type s d.value)) c.check_constant.ensures c.in-Err-Bad.is c.in-Err-Bad.field-0-is in
    let here : in_constant s ≡ true = ap (λ vs. is_missing (table_seen vs)) c.requires.no_variables in
    let some = any_fails r os (none_recursive r s here d.at d.name d.ty d.value) ∙ found in
    sym (ap (spec.constant_type s) d.is ∙ ap (λ b. cond b None (flat (value_type s d.value))) some)
