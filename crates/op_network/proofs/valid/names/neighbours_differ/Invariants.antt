use Rattle.std.specs.List.{AllAdjacentBelow}
use Rattle.std.proofs.Common.{◌≢◌}
use Rattle.op_network.specs.Valid.{name_at}
use Rattle.op_network.proofs.valid.names.neighbours_differ.Given as goal

abbrev pub invariant-loop-i : goal.invariant-loop-i
invariant-loop-i l = AllAdjacentBelow (λ a b. name_at l.edges a ≢ name_at l.edges b) l.places l.i
