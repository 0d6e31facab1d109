use Rattle.std.proofs.Common.{◌≡◌, ◌++◌, drop}
use Rattle.node_expand.specs.Instances.{places_from}
use Rattle.node_expand.proofs.expansion.first_places.Given as goal

abbrev pub invariant-loop-i : goal.invariant-loop-i
invariant-loop-i l = l.places ++ places_from l.i (drop l.i l.inputs) ≡ places_from 0 l.inputs
