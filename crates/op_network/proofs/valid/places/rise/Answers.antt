use Rattle.std.proofs.Common.{arith, refl}
use Rattle.op_network.proofs.Pairs.{rise_all}
use Rattle.op_network.proofs.valid.places.rise.Goals as goal

pub returns : goal.returns
returns c = (λ _. rise_all c.args.ids.now c.loop-place.place (omega arith) c.loop-place.invariant, λ _. refl)
