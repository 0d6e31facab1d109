use Rattle.sat_core.proofs.Passing.{InPass}
use Rattle.sat_core.proofs.pass.pass.Given as goal

abbrev pub invariant-loop-at : goal.invariant-loop-at
invariant-loop-at l = InPass l.formula l.log l.initial.trail l.trail l.at l.has_set
