use Rattle.std.proofs.Common.{◌≡◌, ◌∙◌, ◌++◌, ◌+◌, ◌∷◌, drop, refl, sym, ap, arith}
use Rattle.std.proofs.lemmas.List.{drop_more}
use Rattle.lus_types.specs.Checking.{fault_in}
use Rattle.lus_types.specs.Names.{left_of}
use Rattle.lus_types.specs.Views.{scope_seen, recursions, variables_seen}
use Rattle.lus_types.specs.Walk.{item, items}
use Rattle.lus_types.proofs.Faults.{stopped, after, fault_append}
use Rattle.lus_types.proofs.nodes.items.check_items.Goals as goal

pub returns-in_err-check_item : goal.returns-in_err-check_item
returns-in_err-check_item c =
    let r = recursions c.args.scope.now.cycles.now in
    let s = scope_seen c.args.scope.now in
    let vs = variables_seen c.args.variables.now in
    let x = c.item-item.result in
    let rest = drop (c.loop-item.item-index + 1) c.args.items.now in
    let step = drop_more c.args.items.now c.loop-item.item-index x (omega arith) ∙ ap (λ y. y ∷ rest) (sym c.item-item.is) in
    stopped _ _ _ _ c.in_err-check_item.field-0.0 (λ done. c.check_item.new.defined ≡ c.loop-item.defined ++ left_of x) _ c.check_item.result c.from_residual.result
    (c.loop-item.invariant ∙ ap (λ l. fault_in r (items s vs c.loop-item.defined l)) step ∙ fault_append r (item s vs c.loop-item.defined x) (items s vs (c.loop-item.defined ++ left_of x) rest))
    refl c.check_item.ensures c.in_err-check_item.was c.from_residual.ensures

pub loop-item-preserved : goal.loop-item-preserved
loop-item-preserved c =
    let r = recursions c.args.scope.now.cycles.now in
    let s = scope_seen c.args.scope.now in
    let vs = variables_seen c.args.variables.now in
    let x = c.item-item.result in
    let rest = drop (c.loop-item.item-index + 1) c.args.items.now in
    let step = drop_more c.args.items.now c.loop-item.item-index x (omega arith) ∙ ap (λ y. y ∷ rest) (sym c.item-item.is) in
    after _ _ _ _ (c.loop-item.invariant ∙ ap (λ l. fault_in r (items s vs c.loop-item.defined l)) step ∙ fault_append r (item s vs c.loop-item.defined x) (items s vs (c.loop-item.defined ++ left_of x) rest)) refl c.in_ok-check_item.ensures.1
    ∙ ap (λ before. fault_in r (items s vs before rest)) (sym c.in_ok-check_item.ensures.0)
