use Rattle.std.proofs.Common.{arith, ◌∙◌, ap, map, sym}
use Rattle.lus_syntax.specs.declared.ast.Ast.{Ast}
use Rattle.lus_types.specs.Names.{globals}
use Rattle.node_expand.specs.Headers.{heads, node_seen}
use Rattle.node_expand.specs.Outlines.{outline}
use Rattle.node_expand.specs.Law.{program_in}
use Rattle.node_expand.proofs.HeadersKnown.{outlines_step}
use Rattle.node_expand.proofs.outlines.outlines_of.Goals as goal

pub loop-place-preserved : goal.loop-place-preserved
loop-place-preserved c =
    let typed = c.args.typed.now in
    let g = globals typed.ast.decls in
    outlines_step (program_in typed) g c.as_slice-decls.result.now c.args.headers.now c.loop-place.place c.index-decls-place.result c.index-headers-place.result c.in_ok-of_items.of_items c.loop-place.outlines c.add.new.self _
    (c.requires ∙ ap (heads g) (sym (c.as_slice-decls.ensures ∙ ap (λ (a : Ast). a.decls) c.ast.ensures))) (omega arith) c.index-decls-place.is c.index-headers-place.is
    (c.in_ok-of_items.ensures ∙ ap (map (outline (program_in typed) g (node_seen c.index-headers-place.result))) c.items_of-items.ensures) c.in_ok-add.ensures.ok c.loop-place.invariant
