use Rattle.std.proofs.Common.{◌∙◌, ◌≡◌, Err, List, ap, length, refl, rules, sym}
use Rattle.lus_types.specs.Names.{globals}
use Rattle.node_expand.specs.declared.fault.ExpandFault.TheVariants.{Depth, Edges}
use Rattle.node_expand.specs.declared.header.Variable.{Variable}
use Rattle.node_expand.specs.Expanding.{inputs_at}
use Rattle.node_expand.specs.Known.{all_results}
use Rattle.node_expand.specs.Law.{program_in}
use Rattle.node_expand.specs.Outlines.{callee, measure_at, measures}
use Rattle.node_expand.proofs.MainSized.{ready, too_deep, too_large}
use Rattle.node_expand.proofs.expansion.tables_of.Goals as goal

pub returns-in_err-check_size-clause-deep : goal.returns-in_err-check_size-clause-deep
returns-in_err-check_size-clause-deep c = λ e.
    let typed = c.args.typed.now in
    let g = globals typed.ast.decls in
    let named = c.node_named-main.ensures ∙ ap (callee g) c.name_of_main.ensures in
    let sizes = c.in_ok-sizes.ensures ∙ ap (λ o. measures o c.args.depth) (c.as_slice-2.ensures ∙ c.in_ok-outlines.ensures) in
    let returned : c.from_residual-in_err-check_size.result ≡ Err c.in_err-check_size.field-0.0 = search rules in
    too_deep typed c.typed_program.ensures.nodes c.typed_program.ensures.program c.args.depth c.measure_at.result
    (c.measure_at.ensures ∙ (λ i. measure_at ((c.as_slice-4.ensures ∙ sizes) i) (named i)))
    (c.in_err-check_size.ensures.deep (ap (λ f. Err f) (let told = sym returned ∙ e in let same : c.in_err-check_size.field-0.0 ≡ Depth = cc told in same)))

pub returns-in_err-check_size-clause-large : goal.returns-in_err-check_size-clause-large
returns-in_err-check_size-clause-large c = λ e.
    let typed = c.args.typed.now in
    let g = globals typed.ast.decls in
    let named = c.node_named-main.ensures ∙ ap (callee g) c.name_of_main.ensures in
    let sizes = c.in_ok-sizes.ensures ∙ ap (λ o. measures o c.args.depth) (c.as_slice-2.ensures ∙ c.in_ok-outlines.ensures) in
    let returned : c.from_residual-in_err-check_size.result ≡ Err c.in_err-check_size.field-0.0 = search rules in
    too_large typed c.typed_program.ensures.nodes c.typed_program.ensures.program c.args.depth c.measure_at.result c.in_ok-headers.headers (length c.inputs_at-inputs.result.now)
    (c.measure_at.ensures ∙ (λ i. measure_at ((c.as_slice-4.ensures ∙ sizes) i) (named i)))
    c.in_ok-headers.ensures
    (ap (λ (l : List Variable). length l) (c.inputs_at-inputs.ensures ∙ (λ i. inputs_at (c.as_slice-3.ensures i) (named i))))
    (c.in_err-check_size.ensures.many (ap (λ f. Err f) (let told = sym returned ∙ e in let same : c.in_err-check_size.field-0.0 ≡ Edges = cc told in same)))

pub returns-clause-ready : goal.returns-clause-ready
returns-clause-ready c =
    let typed = c.args.typed.now in
    let g = globals typed.ast.decls in
    let named = c.node_named-main.ensures ∙ ap (callee g) c.name_of_main.ensures in
    ready typed c.typed_program.ensures.nodes c.typed_program.ensures.program c.args.depth c.measure_at.result (length c.inputs_at-inputs.result.now) _
    refl c.in_ok-headers.ensures c.in_ok-outlines.ensures
    (c.in_ok-sizes.ensures ∙ ap (λ o. measures o c.args.depth) (c.as_slice-2.ensures ∙ c.in_ok-outlines.ensures)) (c.in_ok-results.ensures.results ∙ ap (λ l. all_results (program_in typed) g l typed.ast.decls) c.as_slice-7.ensures)
    (c.measure_at.ensures ∙ (λ i. measure_at ((c.as_slice-4.ensures ∙ c.in_ok-sizes.ensures ∙ ap (λ o. measures o c.args.depth) (c.as_slice-2.ensures ∙ c.in_ok-outlines.ensures)) i) (named i)))
    (ap (λ (l : List Variable). length l) (c.inputs_at-inputs.ensures ∙ (λ i. inputs_at (c.as_slice-3.ensures i) (named i))))
    c.in_ok-check_size.ensures.ok
