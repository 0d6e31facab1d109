use Rattle.std.proofs.Common.{◌≡◌, ◌≤◌, ◌+◌, length}
use Rattle.cnf_form.specs.Limits.{most_bytes, most_clauses}
use Rattle.cnf_form.specs.Lines.{lines}
use Rattle.cnf_form.specs.Dimacs.{no_clauses, clauses_from}
use Rattle.cnf_form.proofs.Counts.{words_in}
use Rattle.cnf_form.proofs.read.read_clauses.Given as goal

abbrev pub invariant-loop-line : goal.invariant-loop-line
invariant-loop-line l =
    (clauses_from l.fn.header.count l.fn.before (no_clauses l.fn.header.vars) (lines l.fn.text)
    ≡ clauses_from l.fn.header.count l.number l.reading (lines l.rest))
    × (l.number + length l.rest ≤ most_bytes)
    × (length l.reading.clauses + words_in (lines l.rest) ≤ most_clauses)

abbrev pub decreases-loop-line : goal.decreases-loop-line
decreases-loop-line l = length l.rest
