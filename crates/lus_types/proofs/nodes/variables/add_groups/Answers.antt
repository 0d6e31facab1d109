use Rattle.std.proofs.Common.{◌∙◌, ◌++◌, ◌∷◌, [], take, sym, ap, subst, arith}
use Rattle.std.proofs.lemmas.List.{take_more, take_all}
use Rattle.lus_types.specs.Rows.{IsTableOf, IsGrown, names_in}
use Rattle.lus_types.specs.Signatures.{Row, group_variables, variables_in}
use Rattle.lus_types.specs.Views.{globals_seen, names_seen}
use Rattle.lus_types.proofs.Grown.{next_group, none_yet}
use Rattle.lus_types.proofs.nodes.variables.add_groups.Goals as goal

pub loop-group-init : goal.loop-group-init
loop-group-init c = λ row h. none_yet c.args.table.now c.args.tys.now row h

pub loop-group-preserved : goal.loop-group-preserved
loop-group-preserved c = λ row h.
    let g = globals_seen c.args.globals.now in
    let d = names_seen c.args.defined.now in
    let x = c.group-item.result in
    let i = c.loop-group.group-index in
    let gs = c.args.groups.now in
    let grows : (r : Row) → IsTableOf c.loop-group.table r → IsGrown c.add_names.new.table c.loop-group.tys c.add_names.new.tys r (group_variables g c.args.is_input d x.clock x.ty (names_in r) x.names) =
    λ r k. subst (λ l. IsGrown c.add_names.new.table c.loop-group.tys c.add_names.new.tys r (group_variables g c.args.is_input d x.clock x.ty (names_in r) l)) c.as_slice-names.ensures (c.in_ok-add_names.ensures.ok r k) in
    subst (λ l. IsGrown c.add_names.new.table c.args.tys.now c.add_names.new.tys row (variables_in g c.args.is_input d (names_in row) l))
    (ap (λ y. take i gs ++ y ∷ []) c.group-item.is ∙ sym (take_more gs i x (omega arith)))
    (next_group g c.args.is_input d row (take i gs) x c.loop-group.table c.add_names.new.table c.args.tys.now c.loop-group.tys c.add_names.new.tys (c.loop-group.invariant row h) grows)

pub returns-clause-ok : goal.returns-clause-ok
returns-clause-ok c = λ row h.
    subst (λ l. IsGrown c.loop-group.table c.args.tys.now c.loop-group.tys row (variables_in (globals_seen c.args.globals.now) c.args.is_input (names_seen c.args.defined.now) (names_in row) l))
    (take_all c.loop-group.group-index c.args.groups.now (omega arith)) (c.loop-group.invariant row h)
