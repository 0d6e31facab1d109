use Rattle.sat_core.proofs.Filling.{Filling}
use Rattle.sat_core.proofs.bits.bits_of.Given as goal

abbrev pub invariant-loop-entry : goal.invariant-loop-entry
invariant-loop-entry l = Filling l.bits l.trail l.vars l.entry-index
