use Rattle.std.proofs.Common.{◌≡◌, ◌∙◌, ◌++◌, [], true, false, ap}
use Rattle.std.proofs.lemmas.List.{map-append, append_assoc}
use Rattle.lus_types.specs.declared.expressions.scope.Variable.{Variable}
use Rattle.lus_types.specs.Names.{Name, declared_names, defined_in, entry_of}
use Rattle.lus_types.specs.Rows.{names_in}
use Rattle.lus_types.specs.Signatures.{variables_in}
use Rattle.lus_types.specs.Views.{globals_seen, names_seen}
use Rattle.lus_types.proofs.Grown.{names_of_groups}
use Rattle.lus_types.proofs.nodes.signatures.node_variables.Goals as goal

pub returns-clause-ok : goal.returns-clause-ok
returns-clause-ok c =
    let g = globals_seen c.args.globals.now in
    let set = names_seen c.in_ok-defined.defined in
    let d : set ≡ defined_in c.args.items.now = λ i x. c.in_ok-defined.ensures.ok x i in
    let ins = variables_in g true set [] c.args.inputs.now in
    let first = c.in_ok-add_groups.ensures.ok [] (λ x. ap (λ t. entry_of t x) c.new-table.ensures) in
    let names : names_in ins ≡ declared_names c.args.inputs.now = names_of_groups g true set [] c.args.inputs.now in
    let outs = variables_in g false set (names_in ins) c.args.outputs.now in
    let second = c.in_ok-add_groups-2.ensures.ok ins first.found in
    let more : names_in (ins ++ outs) ≡ declared_names c.args.inputs.now ++ declared_names c.args.outputs.now =
    map-append (λ (entry : Name × Variable). entry.0) ins outs ∙ (λ i. names i ++ names_of_groups g false set (names_in ins) c.args.outputs.now i) in
    let third = c.in_ok-add_groups-3.ensures.ok (ins ++ outs) second.found in
    λ x. third.found x ∙ ap (λ l. entry_of l x) (append_assoc ins outs _)
    ∙ (λ i. entry_of (variables_in g true (d i) [] c.args.inputs.now ++ (variables_in g false (d i) (names i) c.args.outputs.now ++ variables_in g false (d i) (more i) c.args.locals.now)) x)
