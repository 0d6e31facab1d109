use Rattle.std.proofs.Common.{◌≡◌, replicate}
use Rattle.bit_blast.specs.Circuit.{no}
use Rattle.goal_cnf.proofs.observed.no_tags.Given as goal

abbrev pub invariant-loop-edge : goal.invariant-loop-edge
invariant-loop-edge l = l.tags ≡ replicate l._edge (no 0)
