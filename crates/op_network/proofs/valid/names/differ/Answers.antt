use Rattle.std.proofs.Common.{arith, refl}
use Rattle.std.proofs.lemmas.Bool.{iff_false}
use Rattle.op_network.proofs.Pairs.{apart_more, apart_all}
use Rattle.op_network.proofs.valid.names.differ.Goals as goal

pub loop-place-preserved : goal.loop-place-preserved
loop-place-preserved c = apart_more (λ t. t) c.args.names.now c.loop-place.place c.index-names-place.result (omega arith) c.index-names-place.is c.loop-place.invariant
    (iff_false c.is_among.ensures c.if-is_among.false)

pub returns : goal.returns
returns c = (λ _. apart_all (λ t. t) c.args.names.now c.loop-place.place (omega arith) c.loop-place.invariant, λ _. refl)
