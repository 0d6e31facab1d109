use Rattle.std.proofs.Common.{◌∙◌, ◌≡◌, ◌<◌, List, ap, arith, length, subst, sym}
use Rattle.lus_syntax.specs.declared.ast.Ast.{Ast}
use Rattle.lus_syntax.specs.declared.ast.Item.{Item}
use Rattle.lus_types.specs.Names.{globals}
use Rattle.node_expand.specs.declared.header.Header.{Header}
use Rattle.node_expand.specs.declared.outlines.Outline.{Outline}
use Rattle.node_expand.specs.Headers.{heads}
use Rattle.node_expand.specs.Known.{results_among}
use Rattle.node_expand.specs.Law.{program_in}
use Rattle.node_expand.specs.Outlines.{all_outlines}
use Rattle.node_expand.specs.Small.{AreSmall}
use Rattle.node_expand.specs.Variables.{names_of}
use Rattle.node_expand.proofs.PartsMade.{all_small, outline_count, results_done, results_step}
use Rattle.node_expand.proofs.expansion.all_results.Goals as goal

pub results_of-requires : goal.results_of-requires
results_of-requires c =
    let typed = c.args.typed.now in
    let p = program_in typed in
    let g = globals typed.ast.decls in
    let decls = c.as_slice-decls.result.now in
    let same : decls ≡ typed.ast.decls = c.as_slice-decls.ensures ∙ ap (λ (a : Ast). a.decls) c.ast.ensures in
    let less : c.loop-place.place < length decls = omega arith in
    ap (λ (l : List Outline). length l) c.as_slice.ensures
    ∙ outline_count p g decls c.args.outlines.now c.loop-place.place c.index-decls-place.result c.index-outlines-place.result (c.requires.outlines ∙ ap (all_outlines p g) (sym same)) less c.index-decls-place.is c.index-outlines-place.is
    ∙ sym (ap (λ (l : List Item). length l) c.items_of-items.ensures)

pub loop-place-preserved : goal.loop-place-preserved
loop-place-preserved c =
    let typed = c.args.typed.now in
    let p = program_in typed in
    let g = globals typed.ast.decls in
    let decls = c.as_slice-decls.result.now in
    let same : decls ≡ typed.ast.decls = c.as_slice-decls.ensures ∙ ap (λ (a : Ast). a.decls) c.ast.ensures in
    let less : c.loop-place.place < length decls = omega arith in
    results_step p g c.args.sizes.now decls c.args.headers.now c.args.outlines.now c.loop-place.place c.index-decls-place.result c.index-headers-place.result c.index-outlines-place.result c.in_ok-results.results c.loop-place.all c.add.new.self _
    (c.requires.heads ∙ ap (heads g) (sym same)) (c.requires.outlines ∙ ap (all_outlines p g) (sym same)) less c.index-decls-place.is c.index-headers-place.is c.index-outlines-place.is
    (c.in_ok-results.ensures ∙ (λ i. results_among c.args.sizes.now (c.items_of-items.ensures i) (c.as_slice.ensures i) (names_of ((c.as_slice-outputs.ensures ∙ ap (λ (h : Header). h.outputs) (sym c.index-headers-place.is)) i))))
    c.in_ok-add.ensures.ok c.loop-place.invariant

pub returns-clause-small : goal.returns-clause-small
returns-clause-small c =
    let typed = c.args.typed.now in
    let p = program_in typed in
    let g = globals typed.ast.decls in
    let decls = c.as_slice-decls.result.now in
    let at : c.loop-place.place ≡ length decls = omega arith in
    subst AreSmall (sym (results_done p g c.args.sizes.now decls c.loop-place.place c.loop-place.all _ at c.loop-place.invariant)) (all_small p g c.args.sizes.now typed.ast.decls)
