use Rattle.std.proofs.Common.{◌≡◌, ◌∙◌, List, Option, sym, ap}
use Rattle.op_network.specs.declared.value.Ty.{Ty}
use Rattle.lus_types.specs.Checking.{fault_in}
use Rattle.lus_types.specs.Constants.{constant_scope}
use Rattle.lus_types.specs.Occurrences.{flat}
use Rattle.lus_types.specs.Views.{recursions, tables_seen}
use Rattle.lus_types.specs.Walk.{constant, value_type}
use Rattle.lus_types.proofs.Faults.{stopped, or_none}
use Rattle.lus_types.proofs.declarations.check_constant_decl.Goals as goal

pub returns-in_err-check_constant : goal.returns-in_err-check_constant
returns-in_err-check_constant c =
    let r = recursions c.args.tables.now.cycles.now in
    let t = tables_seen c.args.tables.now in
    let s = λ (known : List (Option Ty)). constant_scope t.width t.globals t.signatures known c.args.place in
    stopped _ _ _ _ c.in_err-check_constant.field-0.0 (λ ty. ty ≡ flat (value_type (s c.first.result.now) c.args.value.now)) _ c.check_constant.result c.from_residual.result
    (sym (or_none _)) (ap (λ known. fault_in r (constant (s known) c.args.at c.args.name.now c.args.ty.now c.args.value.now)) c.first.ensures)
    c.check_constant.ensures c.in_err-check_constant.was c.from_residual.ensures

pub returns : goal.returns
returns c =
    let r = recursions c.args.tables.now.cycles.now in
    let t = tables_seen c.args.tables.now in
    let s = λ (known : List (Option Ty)). constant_scope t.width t.globals t.signatures known c.args.place in
    (tt, sym (ap (λ known. fault_in r (constant (s known) c.args.at c.args.name.now c.args.ty.now c.args.value.now)) c.first.ensures) ∙ c.in_ok-check_constant.ensures.1)
