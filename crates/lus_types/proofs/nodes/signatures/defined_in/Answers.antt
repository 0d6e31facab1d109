use Rattle.std.proofs.Common.{◌∙◌, ◌+◌, ◌∷◌, ◌||◌, drop, sym, ap, arith}
use Rattle.std.proofs.lemmas.List.{drop_more}
use Rattle.lus_types.specs.Names.{is_among, left_of, lefts}
use Rattle.lus_types.proofs.Among.{or_assoc, among_append}
use Rattle.lus_types.proofs.nodes.signatures.defined_in.Goals as goal

pub loop-item-preserved : goal.loop-item-preserved
loop-item-preserved c = λ x.
    let i = c.item-item.result in
    let rest = drop (c.loop-item.item-index + 1) c.args.items.now in
    let step = drop_more c.args.items.now c.loop-item.item-index i (omega arith) ∙ ap (λ y. y ∷ rest) (sym c.item-item.is) in
    ap (λ b. b || is_among x (lefts rest)) (c.in_ok-add_left.ensures.ok x)
    ∙ or_assoc (is_among x c.loop-item.names) (is_among x (left_of i)) (is_among x (lefts rest))
    ∙ ap (λ b. is_among x c.loop-item.names || b) (sym (among_append x (left_of i) (lefts rest)) ∙ ap (λ l. is_among x (lefts l)) (sym step))
    ∙ c.loop-item.invariant x
