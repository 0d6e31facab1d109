use Rattle.std.proofs.Common.{◌≡◌, ◌≤◌, ◌+◌, length}
use Rattle.cnf_form.specs.Limits.{most_clauses}
use Rattle.cnf_form.specs.Lines.{words}
use Rattle.cnf_form.specs.Dimacs.{with_words}
use Rattle.cnf_form.proofs.read.Reading.read_line.Given as goal

abbrev pub invariant-loop-word : goal.invariant-loop-word
invariant-loop-word l =
    (with_words l.number l.fn.self (words l.fn.line) ≡ with_words l.number l.self (words l.rest))
    × (length l.self.clauses + length (words l.rest) ≤ most_clauses)

abbrev pub decreases-loop-word : goal.decreases-loop-word
decreases-loop-word l = length l.rest
