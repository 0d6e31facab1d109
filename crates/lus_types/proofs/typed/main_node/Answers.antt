use Rattle.std.proofs.Common.{◌∙◌, IfSome, sym, ap, subst}
use Rattle.lus_types.specs.Kinds.{lacks_main}
use Rattle.lus_types.specs.Names.{globals}
use Rattle.lus_types.specs.Occurrences.{is_missing, node_meant}
use Rattle.lus_types.specs.Typing.{IsMain}
use Rattle.lus_types.specs.Views.{name_given}
use Rattle.lus_types.proofs.Main.{if_named, named_lacks}
use Rattle.lus_types.proofs.typed.main_node.Goals as goal

pub returns-in-Some-clause-found : goal.returns-in-Some-clause-found
returns-in-Some-clause-found c =
    let e = c.node_named.ensures ∙ ap (λ g. node_meant (g c.as_bytes.result.now)) c.requires.same ∙ ap (λ n. node_meant (globals c.args.decls.now n)) c.as_bytes.ensures.value in
    subst (λ m. IfSome c.node_named.result (λ p. IsMain c.args.decls.now (name_given m) p)) (sym c.in-Some.is) (if_named _ c.node_named.result e)

pub returns-in-Some-clause-lacks : goal.returns-in-Some-clause-lacks
returns-in-Some-clause-lacks c =
    let e = c.node_named.ensures ∙ ap (λ g. node_meant (g c.as_bytes.result.now)) c.requires.same ∙ ap (λ n. node_meant (globals c.args.decls.now n)) c.as_bytes.ensures.value in
    ap (λ m. lacks_main c.args.decls.now (name_given m)) c.in-Some.is ∙ named_lacks _ ∙ ap is_missing (sym e)
