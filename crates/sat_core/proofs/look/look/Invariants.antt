use Rattle.std.proofs.Common.{◌≡◌, drop}
use Rattle.proof_check.specs.Check.{open_lits}
use Rattle.proof_check.proofs.Following.{behind}
use Rattle.sat_core.specs.Trail.{lits, is_false}
use Rattle.sat_core.proofs.look.look.Given as goal

abbrev pub invariant-loop-lit : goal.invariant-loop-lit
invariant-loop-lit l = open_lits (is_false (lits l.trail.entries.items)) l.clause ≡ behind l.found (open_lits (is_false (lits l.trail.entries.items)) (drop l.lit-index l.clause))
