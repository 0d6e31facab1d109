use Rattle.std.proofs.Common.{◌∙◌, ◌+◌, ◌∷◌, [], ◌||◌, drop, sym, ap, arith}
use Rattle.std.proofs.lemmas.List.{drop_more}
use Rattle.lus_types.specs.Names.{is_among, spot_names}
use Rattle.lus_types.specs.NameTables.{among_either}
use Rattle.lus_types.proofs.Among.{or_assoc, among_append}
use Rattle.lus_types.proofs.nodes.signatures.add_all.Goals as goal

pub loop-spot-preserved : goal.loop-spot-preserved
loop-spot-preserved c = λ x.
    let s = c.spot-item.result in
    let rest = drop (c.loop-spot.spot-index + 1) c.args.spots.now in
    let step = drop_more c.args.spots.now c.loop-spot.spot-index s (omega arith) ∙ ap (λ y. y ∷ rest) (sym c.spot-item.is) in
    ap (λ b. b || is_among x (spot_names rest)) (c.in_ok-put.ensures.ok x ∙ ap (λ n. among_either x c.loop-spot.names (n ∷ [])) c.bytes.ensures)
    ∙ or_assoc (is_among x c.loop-spot.names) (is_among x (s.text ∷ [])) (is_among x (spot_names rest))
    ∙ ap (λ b. is_among x c.loop-spot.names || b) (sym (among_append x (s.text ∷ []) (spot_names rest)) ∙ ap (λ l. is_among x (spot_names l)) (sym step))
    ∙ c.loop-spot.invariant x
