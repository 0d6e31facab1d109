use Rattle.std.proofs.Common.{reverse}
use Rattle.sat_core.specs.Solving.{entries_of}
use Rattle.sat_core.specs.Trail.{clauses_of}
use Rattle.sat_core.proofs.Walking.{Walking}
use Rattle.sat_core.proofs.walk.walk.Given as goal

abbrev pub invariant-loop-i : goal.invariant-loop-i
invariant-loop-i l = Walking (clauses_of l.formula l.log) (entries_of l.trail) l.from l.i l.seen l.count (reverse l.hints.items)
