use Rattle.std.proofs.Common.{take}
use Rattle.sat_core.proofs.Marking.{Marking}
use Rattle.sat_core.proofs.marks.mark_clause.Given as goal

abbrev pub invariant-loop-lit : goal.invariant-loop-lit
invariant-loop-lit l = Marking l.places (take l.lit-index l.lits) l.skip l.initial.seen l.seen l.from l.count
