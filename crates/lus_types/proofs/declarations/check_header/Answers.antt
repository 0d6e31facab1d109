use Rattle.std.proofs.Common.{◌≡◌, ◌∙◌, ◌++◌, [], true, false, sym, ap}
use Rattle.lus_types.specs.Checking.{fault_in}
use Rattle.lus_types.specs.Names.{declared_names, defined_in}
use Rattle.lus_types.specs.Views.{globals_seen, names_seen}
use Rattle.lus_types.specs.Walk.{groups}
use Rattle.lus_types.proofs.Faults.{stopped, after, answered, fault_append}
use Rattle.lus_types.proofs.declarations.check_header.Goals as goal

pub returns-in_err-check_groups : goal.returns-in_err-check_groups
returns-in_err-check_groups c = λ r.
    let g = globals_seen c.args.globals.now in
    let d : names_seen c.in_ok-defined.defined ≡ defined_in c.args.items.now = λ i x. c.in_ok-defined.ensures.ok x i in
    stopped _ _ _ _ c.in_err-check_groups.field-0.0 (λ done. c.check_groups.new.declared ≡ c.new-declared.result ++ declared_names c.args.inputs.now) _ c.check_groups.result c.from_residual-in_err-check_groups.result
    (fault_append r (groups g true (defined_in c.args.items.now) [] c.args.inputs.now) _)
    (λ i. fault_in r (groups g true (d i) (c.new-declared.ensures i) c.args.inputs.now))
    (c.check_groups.ensures r) c.in_err-check_groups.was c.from_residual-in_err-check_groups.ensures

pub returns-in_err-check_groups-2 : goal.returns-in_err-check_groups-2
returns-in_err-check_groups-2 c = λ r.
    let g = globals_seen c.args.globals.now in
    let d : names_seen c.in_ok-defined.defined ≡ defined_in c.args.items.now = λ i x. c.in_ok-defined.ensures.ok x i in
    let first = after _ _ _ _ (fault_append r (groups g true (defined_in c.args.items.now) [] c.args.inputs.now) _) (λ i. fault_in r (groups g true (d i) (c.new-declared.ensures i) c.args.inputs.now)) (c.in_ok-check_groups.ensures r).1 in
    let names = (c.in_ok-check_groups.ensures r).0 ∙ ap (λ l. l ++ declared_names c.args.inputs.now) c.new-declared.ensures in
    stopped _ _ _ _ c.in_err-check_groups-2.field-0.0 (λ done. c.check_groups-2.new.declared ≡ c.check_groups.new.declared ++ declared_names c.args.outputs.now) _ c.check_groups-2.result c.from_residual-in_err-check_groups-2.result
    (first ∙ fault_append r (groups g false (defined_in c.args.items.now) (declared_names c.args.inputs.now) c.args.outputs.now) _)
    (λ i. fault_in r (groups g false (d i) (names i) c.args.outputs.now))
    (c.check_groups-2.ensures r) c.in_err-check_groups-2.was c.from_residual-in_err-check_groups-2.ensures

pub returns : goal.returns
returns c = λ r.
    let g = globals_seen c.args.globals.now in
    let d : names_seen c.in_ok-defined.defined ≡ defined_in c.args.items.now = λ i x. c.in_ok-defined.ensures.ok x i in
    let first = after _ _ _ _ (fault_append r (groups g true (defined_in c.args.items.now) [] c.args.inputs.now) _) (λ i. fault_in r (groups g true (d i) (c.new-declared.ensures i) c.args.inputs.now)) (c.in_ok-check_groups.ensures r).1 in
    let names = (c.in_ok-check_groups.ensures r).0 ∙ ap (λ l. l ++ declared_names c.args.inputs.now) c.new-declared.ensures in
    let second = after _ _ _ _ (first ∙ fault_append r (groups g false (defined_in c.args.items.now) (declared_names c.args.inputs.now) c.args.outputs.now) _) (λ i. fault_in r (groups g false (d i) (names i) c.args.outputs.now)) (c.in_ok-check_groups-2.ensures r).1 in
    let more = (c.in_ok-check_groups-2.ensures r).0 ∙ ap (λ l. l ++ declared_names c.args.outputs.now) names in
    answered _ _ (λ done. c.check_groups-3.new.declared ≡ c.check_groups-2.new.declared ++ declared_names c.args.locals.now) _ c.check_groups-3.result
    (second ∙ sym (λ i. fault_in r (groups g false (d i) (more i) c.args.locals.now))) (λ done u. tt) (c.check_groups-3.ensures r)
