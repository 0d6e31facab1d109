use Rattle.std.proofs.Common.{◌≡◌, ◌≤◌, ◌+◌, [], length}
use Rattle.cnf_form.specs.Limits.{most_bytes}
use Rattle.cnf_form.specs.Lines.{lines}
use Rattle.proof_check.specs.Lrat.{steps_from, proof_of}
use Rattle.proof_check.proofs.read.read_lrat.Given as goal

abbrev pub invariant-loop-line : goal.invariant-loop-line
invariant-loop-line l =
    (proof_of l.fn.bytes ≡ steps_from l.number l.steps (lines l.rest))
    × (l.number + length l.rest ≤ most_bytes)
    × (l.builder ≡ [])

abbrev pub decreases-loop-line : goal.decreases-loop-line
decreases-loop-line l = length l.rest
