use Rattle.std.proofs.Common.{◌∙◌, ◌++◌, ◌≤◌, [], All, ap, arith, false, map, refl, subst, sym}
use Rattle.lus_syntax.specs.declared.ast.Ast.{Ast}
use Rattle.node_expand.specs.declared.limits.TheConstants.{MANY}
use Rattle.node_expand.specs.Expanding.{choices_of, edge_behind, inputs_at}
use Rattle.node_expand.specs.Known.{results_at}
use Rattle.node_expand.specs.Making.{callees_at}
use Rattle.node_expand.specs.Network.{input_edges}
use Rattle.node_expand.specs.Variables.{variable_seen}
use Rattle.node_expand.proofs.InstancesMade.{same_instance}
use Rattle.node_expand.proofs.MainSized.{begun_count, input_few, input_room, parts_are, places_small}
use Rattle.node_expand.proofs.RightValues.{small_at}
use Rattle.node_expand.proofs.expansion.parts_of.Goals as goal

pub first_places-requires : goal.first_places-requires
first_places-requires c =
    input_few c.args.typed.now c.args.tables.now c.inputs_at-inputs.result.now c.name_of_main-name.result.now c.requires.ready c.name_of_main-name.ensures
    (c.inputs_at-inputs.ensures ∙ (λ i. inputs_at (c.as_slice.ensures i) (c.node_named-main.ensures i)))

pub add_inputs-requires : goal.add_inputs-requires
add_inputs-requires c =
    input_few c.args.typed.now c.args.tables.now c.inputs_at-inputs.result.now c.name_of_main-name.result.now c.requires.ready c.name_of_main-name.ensures
    (c.inputs_at-inputs.ensures ∙ (λ i. inputs_at (c.as_slice.ensures i) (c.node_named-main.ensures i)))

pub make_instance-requires-clause-room : goal.make_instance-requires-clause-room
make_instance-requires-clause-room c =
    let room = input_room c.args.typed.now c.args.tables.now c.inputs_at-inputs.result.now c.name_of_main-name.result.now c.requires.ready c.name_of_main-name.ensures
    (c.inputs_at-inputs.ensures ∙ (λ i. inputs_at (c.as_slice.ensures i) (c.node_named-main.ensures i))) in
    let count = begun_count c.add_inputs.new.edges c.new.result c.inputs_at-inputs.result.now c.new.ensures c.in_ok-add_inputs.ensures in
    omega (arith, room, count)

pub ids_of-requires-clause-small : goal.ids_of-requires-clause-small
ids_of-requires-clause-small c =
    let few = input_few c.args.typed.now c.args.tables.now c.inputs_at-inputs.result.now c.name_of_main-name.result.now c.requires.ready c.name_of_main-name.ensures
    (c.inputs_at-inputs.ensures ∙ (λ i. inputs_at (c.as_slice.ensures i) (c.node_named-main.ensures i))) in
    subst (All (λ k. k ≤ MANY)) (sym c.as_slice-4.ensures) (places_small c.inputs_at-inputs.result.now c.in_ok-args.args c.in_ok-args.ensures few)

pub overflow_cast-inputs : goal.overflow_cast-inputs
overflow_cast-inputs c =
    let few = input_few c.args.typed.now c.args.tables.now c.inputs_at-inputs.result.now c.name_of_main-name.result.now c.requires.ready c.name_of_main-name.ensures
    (c.inputs_at-inputs.ensures ∙ (λ i. inputs_at (c.as_slice.ensures i) (c.node_named-main.ensures i))) in
    omega (arith, few)

pub ids_of-requires-2-clause-start : goal.ids_of-requires-2-clause-start
ids_of-requires-2-clause-start c =
    let few = input_few c.args.typed.now c.args.tables.now c.inputs_at-inputs.result.now c.name_of_main-name.result.now c.requires.ready c.name_of_main-name.ensures
    (c.inputs_at-inputs.ensures ∙ (λ i. inputs_at (c.as_slice.ensures i) (c.node_named-main.ensures i))) in
    omega (arith, few)

pub ids_of-requires-2-clause-small : goal.ids_of-requires-2-clause-small
ids_of-requires-2-clause-small c =
    let tables = c.args.tables.now in
    subst (All (λ k. k ≤ MANY)) (sym c.results_at-results.ensures) (small_at tables.results c.node_named-main.result tables.small)

pub returns : goal.returns
returns c =
    let typed = c.args.typed.now in
    let tables = c.args.tables.now in
    let inputs = c.inputs_at-inputs.result.now in
    let name = c.name_of_main-name.result.now in
    parts_are typed tables _ inputs c.in_ok-args.args c.results_at-results.result.now _ c.make_instance.new.draft name c.requires.ready
    c.width.ensures (c.in_ok-choices_of.ensures ∙ ap choices_of (c.as_slice-3.ensures ∙ ap (λ (a : Ast). a.decls) c.ast.ensures)) c.edges.view_is
    (c.in_ok-ids_of.ensures ∙ ap (map (edge_behind 0)) c.as_slice-4.ensures) c.in_ok-ids_of-2.ensures refl
    c.name_of_main-name.ensures (c.inputs_at-inputs.ensures ∙ (λ i. inputs_at (c.as_slice.ensures i) (c.node_named-main.ensures i))) c.in_ok-args.ensures
    (c.results_at-results.ensures ∙ ap (results_at tables.results) c.node_named-main.ensures)
    (c.in_ok-add_inputs.ensures ∙ ap (λ l. l ++ input_edges 0 (map variable_seen inputs)) c.new.ensures) c.new-2.ensures
    (same_instance (callees_at typed tables) name name c.as_slice-2.result.now c.in_ok-args.args [] [] false _ c.make_instance.new.draft refl c.as_slice-2.ensures refl c.in_ok-make_instance.ensures)
