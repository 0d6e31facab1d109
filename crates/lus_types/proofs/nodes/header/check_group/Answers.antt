use Rattle.std.proofs.Common.{◌≡◌, ◌∙◌, ◌++◌, ap}
use Rattle.lus_types.specs.Checking.{fault_in, fault_at, kind_of}
use Rattle.lus_types.specs.Names.{spot_names}
use Rattle.lus_types.specs.Occurrences.{TypeName}
use Rattle.lus_types.specs.Views.{globals_seen, names_seen}
use Rattle.lus_types.specs.Walk.{group_names}
use Rattle.lus_types.proofs.Faults.{stopped, after, answered, fault_append}
use Rattle.lus_types.proofs.nodes.header.check_group.Goals as goal

pub returns-in_err-check_variable_names : goal.returns-in_err-check_variable_names
returns-in_err-check_variable_names c = λ r.
    let d = names_seen c.args.defined.now in
    let g = c.args.group.now in
    let before = c.args.declared.now in
    stopped _ _ _ _ c.in_err-check_variable_names.field-0.0 (λ done. c.check_variable_names.new.declared ≡ before ++ spot_names c.as_slice.result.now) _ c.check_variable_names.result c.from_residual.result
    (fault_append r (group_names c.args.is_input d before g.names) _)
    (ap (λ names. fault_in r (group_names c.args.is_input d before names)) c.as_slice.ensures)
    (c.check_variable_names.ensures r) c.in_err-check_variable_names.was c.from_residual.ensures

pub returns-in_err-fine : goal.returns-in_err-fine
returns-in_err-fine c = λ r.
    let d = names_seen c.args.defined.now in
    let g = c.args.group.now in
    let before = c.args.declared.now in
    let first = after _ _ _ _ (fault_append r (group_names c.args.is_input d before g.names) _) (ap (λ names. fault_in r (group_names c.args.is_input d before names)) c.as_slice.ensures) (c.in_ok-check_variable_names.ensures r).1 in
    stopped _ _ _ _ c.in_err-fine.field-0.0 (λ done. Unit {0}) _ c.fine.result c.from_residual-in_err-fine.result first
    (ap (fault_at g.ty.at) (c.type_name_kind.ensures r ∙ ap (λ w. kind_of r (TypeName (globals_seen c.args.globals.now) w)) c.bytes.ensures))
    c.fine.ensures c.in_err-fine.was c.from_residual-in_err-fine.ensures

pub returns : goal.returns
returns c = λ r.
    let d = names_seen c.args.defined.now in
    let g = c.args.group.now in
    let before = c.args.declared.now in
    let first = after _ _ _ _ (fault_append r (group_names c.args.is_input d before g.names) _) (ap (λ names. fault_in r (group_names c.args.is_input d before names)) c.as_slice.ensures) (c.in_ok-check_variable_names.ensures r).1 in
    let second = after _ _ _ _ first (ap (fault_at g.ty.at) (c.type_name_kind.ensures r ∙ ap (λ w. kind_of r (TypeName (globals_seen c.args.globals.now) w)) c.bytes.ensures)) c.in_ok-fine.ensures.1 in
    answered _ _ (λ done. Unit {0}) _ c.check_clock.result second (λ done u. (c.in_ok-check_variable_names.ensures r).0 ∙ ap (λ names. before ++ spot_names names) c.as_slice.ensures) (c.check_clock.ensures r)
