use Rattle.std.proofs.Common.{◌∙◌, ◌++◌, ◌∷◌, [], take, sym, ap, subst, arith}
use Rattle.std.proofs.lemmas.List.{take_more, take_all}
use Rattle.lus_types.specs.Rows.{IsGrown, names_in}
use Rattle.lus_types.specs.Signatures.{group_variables}
use Rattle.lus_types.specs.Views.{globals_seen, names_seen}
use Rattle.lus_types.proofs.Grown.{next_name, none_yet}
use Rattle.lus_types.proofs.nodes.variables.add_names.Goals as goal

pub loop-name-init : goal.loop-name-init
loop-name-init c = λ row h. none_yet c.args.table.now c.args.tys.now row h

pub loop-name-preserved : goal.loop-name-preserved
loop-name-preserved c = λ row h.
    let g = globals_seen c.args.globals.now in
    let d = names_seen c.args.defined.now in
    let x = c.name-item.result in
    let i = c.loop-name.name-index in
    let names = c.args.names.now in
    subst (λ l. IsGrown c.add_variable.new.table c.args.tys.now c.add_variable.new.tys row (group_variables g c.args.is_input d c.args.group.now.clock c.args.group.now.ty (names_in row) l))
    (ap (λ y. take i names ++ y ∷ []) c.name-item.is ∙ sym (take_more names i x (omega arith)))
    (next_name g c.args.is_input d c.args.group.now.clock c.args.group.now.ty row (take i names) x c.loop-name.table c.add_variable.new.table c.args.tys.now c.loop-name.tys c.add_variable.new.tys (c.loop-name.invariant row h) c.in_ok-add_variable.ensures.ok)

pub returns-clause-ok : goal.returns-clause-ok
returns-clause-ok c = λ row h.
    subst (λ l. IsGrown c.loop-name.table c.args.tys.now c.loop-name.tys row (group_variables (globals_seen c.args.globals.now) c.args.is_input (names_seen c.args.defined.now) c.args.group.now.clock c.args.group.now.ty (names_in row) l))
    (take_all c.loop-name.name-index c.args.names.now (omega arith)) (c.loop-name.invariant row h)
