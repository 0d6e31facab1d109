use Rattle.std.proofs.Common.{◌<◌, arith, refl, get_or, length}
use Rattle.std.proofs.lemmas.List.Elements.{All-get_or}
use Rattle.std.proofs.lemmas.List.{get_or_default}
use Rattle.op_network.specs.declared.edge.EdgeId.{EdgeId}
use Rattle.op_network.proofs.Pairs.{met_none, met_more, met_twice, met_all}
use Rattle.op_network.proofs.valid.places.differ_with.Goals as goal

pub loop-place-init : goal.loop-place-init
loop-place-init c = met_none c.args.ids.now c.args.met.now c.requires.unmarked

pub loop-place-preserved : goal.loop-place-preserved
loop-place-preserved c =
    let ids = c.args.ids.now in
    let zero : EdgeId = record { 0 = 0 } in
    let e = get_or ids c.loop-place.place zero in
    let inside : e.0 < length c.args.met.now = All-get_or (λ (e : EdgeId). e.0 < length c.args.met.now) ids c.loop-place.place zero (omega arith) c.requires.edges in
    met_more ids c.loop-place.place e c.loop-place.met (omega arith) (get_or_default ids c.loop-place.place zero e (omega arith)) (omega (arith, inside, c.loop-place.auto.met)) c.if-met-e.false c.loop-place.invariant

pub returns-then-met-e : goal.returns-then-met-e
returns-then-met-e c =
    let ids = c.args.ids.now in
    let zero : EdgeId = record { 0 = 0 } in
    let e = get_or ids c.loop-place.place zero in
    let inside : e.0 < length c.args.met.now = All-get_or (λ (e : EdgeId). e.0 < length c.args.met.now) ids c.loop-place.place zero (omega arith) c.requires.edges in
    (λ h. cc, λ all. absurd (met_twice ids c.loop-place.place e c.loop-place.met (omega arith) (get_or_default ids c.loop-place.place zero e (omega arith)) (omega (arith, inside, c.loop-place.auto.met)) c.if-met-e.true c.loop-place.invariant all))

pub returns : goal.returns
returns c = (λ _. met_all c.args.ids.now c.loop-place.place c.loop-place.met (omega arith) c.loop-place.invariant, λ _. refl)
