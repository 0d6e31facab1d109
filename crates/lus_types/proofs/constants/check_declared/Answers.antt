use Rattle.std.proofs.Common.{◌∙◌, Some, sym, ap}
use Rattle.lus_types.specs.Checking.{fault_at, kind_of}
use Rattle.lus_types.specs.Occurrences.{TypeName}
use Rattle.lus_types.specs.Types.{type_named}
use Rattle.lus_types.specs.Views.{globals_seen}
use Rattle.lus_types.specs.Walk.{declared_type}
use Rattle.lus_types.proofs.Faults.{stopped, or_none}
use Rattle.lus_types.proofs.ConstantFaults.{fault_declared}
use Rattle.lus_types.proofs.constants.check_declared.Goals as goal

pub returns-in_err-fine-in-Some : goal.returns-in_err-fine-in-Some
returns-in_err-fine-in-Some c = λ r.
    let g = globals_seen c.args.globals.now in
    stopped _ _ _ _ c.in_err-fine-in-Some.field-0.0 (λ done. Unit {0}) _ c.fine.result c.from_residual.result
    (fault_declared r g c.args.ty.now c.in-Some.ty c.in-Some.is ∙ sym (or_none _))
    (ap (fault_at c.in-Some.ty.at) (c.type_name_kind.ensures r ∙ ap (λ w. kind_of r (TypeName g w)) c.bytes.ensures))
    c.fine.ensures c.in_err-fine-in-Some.was c.from_residual.ensures

pub returns-in_ok-fine-in-Some : goal.returns-in_ok-fine-in-Some
returns-in_ok-fine-in-Some c = λ r.
    let g = globals_seen c.args.globals.now in (
      ap Some (c.type_named.ensures ∙ ap (type_named g) c.bytes-in-Some.ensures) ∙ ap (declared_type g) (sym c.in-Some.is),
      fault_declared r g c.args.ty.now c.in-Some.ty c.in-Some.is ∙ sym (ap (fault_at c.in-Some.ty.at) (c.type_name_kind.ensures r ∙ ap (λ w. kind_of r (TypeName g w)) c.bytes.ensures)) ∙ c.in_ok-fine-in-Some.ensures.1,
    )
