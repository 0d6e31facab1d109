use Rattle.std.proofs.Common.{◌∙◌, ap, sym}
use Rattle.std.specs.Prelude.{option_copied}
use Rattle.lus_types.specs.Names.{globals}
use Rattle.node_expand.specs.Headers.{header_at, output_type}
use Rattle.node_expand.proofs.HeadersKnown.{result_type_known}
use Rattle.node_expand.proofs.making.result_type.Goals as goal

pub returns-in-Some : goal.returns-in-Some
returns-in-Some c =
    let typed = c.args.scope.now.typed.now in
    let tables = c.args.scope.now.tables.now in
    c.output_type.ensures
    ∙ ap output_type (sym (ap option_copied c.in-Some.is) ∙ c.header_at.ensures ∙ ap (header_at tables.headers) c.node_named.ensures)
    ∙ sym (result_type_known (globals typed.ast.decls) typed.ast.decls tables.headers c.args.name.now c.requires.known.heads)
