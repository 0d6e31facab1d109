use Rattle.op_network.proofs.Pairs.{AreMet}
use Rattle.op_network.proofs.valid.places.differ_with.Given as goal

abbrev pub invariant-loop-place : goal.invariant-loop-place
invariant-loop-place l = AreMet l.ids l.place l.met
