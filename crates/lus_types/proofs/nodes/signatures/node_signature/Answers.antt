use Rattle.std.proofs.Common.{◌≡◌, ◌∙◌, ◌++◌, [], true, false, ap}
use Rattle.lus_types.specs.Names.{declared_names, defined_in, entry_of}
use Rattle.lus_types.specs.Rows.{names_in}
use Rattle.lus_types.specs.Signatures.{variables_in, types_in}
use Rattle.lus_types.specs.Views.{globals_seen, names_seen}
use Rattle.lus_types.proofs.Grown.{names_of_groups}
use Rattle.lus_types.proofs.nodes.signatures.node_signature.Goals as goal

pub returns-clause-ok : goal.returns-clause-ok
returns-clause-ok c =
    let g = globals_seen c.args.globals.now in
    let set = names_seen c.in_ok-defined.defined in
    let d : set ≡ defined_in c.args.items.now = λ i x. c.in_ok-defined.ensures.ok x i in
    let ins = variables_in g true set [] c.args.inputs.now in
    let first = c.in_ok-add_groups.ensures.ok [] (λ x. ap (λ t. entry_of t x) c.new-table.ensures) in
    let second = c.in_ok-add_groups-2.ensures.ok ins first.found in
    let names : names_in ins ≡ declared_names c.args.inputs.now = names_of_groups g true set [] c.args.inputs.now in
    let params = first.types ∙ (λ i. c.new-params.ensures i ++ types_in (variables_in g true (d i) [] c.args.inputs.now)) in
    let results = second.types ∙ (λ i. c.new-results.ensures i ++ types_in (variables_in g false (d i) (names i) c.args.outputs.now)) in
    λ i. record { params = params i; results = results i }
