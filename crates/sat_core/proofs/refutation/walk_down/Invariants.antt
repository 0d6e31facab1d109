use Rattle.std.proofs.Common.{◌≡◌, reverse}
use Rattle.sat_core.specs.Marks.{open_from}
use Rattle.sat_core.specs.Solving.{entries_of}
use Rattle.sat_core.specs.Trail.{clauses_of}
use Rattle.sat_core.proofs.Falling.{Falling}
use Rattle.sat_core.proofs.refutation.walk_down.Given as goal

abbrev pub invariant-loop-i : goal.invariant-loop-i
invariant-loop-i l = Falling (clauses_of l.formula l.log) (entries_of l.trail) l.i l.seen (reverse l.hints.items) × (l.count ≡ open_from l.from l.seen)
