use Rattle.std.proofs.Common.{◌∙◌, ap, refl}
use Rattle.lus_syntax.specs.declared.ast.Ast.{Ast}
use Rattle.lus_types.specs.Names.{globals}
use Rattle.node_expand.specs.Law.{program_in}
use Rattle.node_expand.proofs.CalleeMade.{callee_is}
use Rattle.node_expand.proofs.instances.callee_at.Goals as goal

pub returns : goal.returns
returns c = λ node at.
    let typed = c.args.typed.now in
    let tables = c.args.tables.now in
    callee_is (program_in typed) (globals typed.ast.decls) typed.ast.decls c.as_slice-decls.result.now tables.headers c.as_slice-headers.result.now tables.outlines c.as_slice-outlines.result.now c.args.place
    c.index-decls-place.result c.index-headers-place.result c.index-outlines-place.result node _
    (c.as_slice-decls.ensures ∙ ap (λ (a : Ast). a.decls) c.ast.ensures) c.as_slice-headers.ensures c.as_slice-outlines.ensures c.requires.known.heads c.requires.known.outlines c.requires.within
    c.index-decls-place.is c.index-headers-place.is c.index-outlines-place.is at
    refl c.items_of.ensures c.as_slice.ensures
