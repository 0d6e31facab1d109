use Rattle.std.proofs.Common.{◌≢◌, AllPairs, take}
use Rattle.op_network.proofs.valid.names.differ.Given as goal

abbrev pub invariant-loop-place : goal.invariant-loop-place
invariant-loop-place l = AllPairs (λ a b. a ≢ b) (take l.place l.names)
