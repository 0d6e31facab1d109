use Rattle.std.proofs.Common.{◌≡◌, ◌∙◌, [], ap, sym}
use Rattle.std.specs.Prelude.{None, Some, option_copied, slice_get}
use Rattle.std.specs.Option.{option_map_or}
use Rattle.lus_syntax.specs.declared.ast.Ast.{Ast}
use Rattle.lus_types.specs.Names.{globals}
use Rattle.node_expand.specs.Expanding.{node_name}
use Rattle.node_expand.proofs.MainNode.{named}
use Rattle.node_expand.proofs.expansion.name_of_main.Goals as goal

pub returns-in-Some : goal.returns-in-Some
returns-in-Some c =
    let typed = c.args.typed.now in
    let is : Some c.in-Some.decl.now ≡ slice_get typed.ast.decls typed.main =
    sym (ap option_copied c.in-Some.is) ∙ c.at.ensures ∙ (λ i. slice_get ((c.as_slice.ensures ∙ ap (λ (a : Ast). a.decls) c.ast.ensures) i) (c.main.ensures i)) in
    c.node_name.ensures ∙ ap (λ o. option_map_or node_name o []) is ∙ sym (named (globals typed.ast.decls) (slice_get typed.ast.decls typed.main))

pub returns-in-None : goal.returns-in-None
returns-in-None c =
    let typed = c.args.typed.now in
    let is : None ≡ slice_get typed.ast.decls typed.main =
    sym (ap option_copied c.in-None.is) ∙ c.at.ensures ∙ (λ i. slice_get ((c.as_slice.ensures ∙ ap (λ (a : Ast). a.decls) c.ast.ensures) i) (c.main.ensures i)) in
    ap (λ o. option_map_or node_name o []) is ∙ sym (named (globals typed.ast.decls) (slice_get typed.ast.decls typed.main))
