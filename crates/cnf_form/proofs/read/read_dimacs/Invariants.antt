use Rattle.std.proofs.Common.{◌≡◌, ◌≤◌, ◌+◌, length}
use Rattle.cnf_form.specs.Limits.{most_bytes}
use Rattle.cnf_form.specs.Lines.{lines}
use Rattle.cnf_form.specs.Dimacs.{formula_from, formula_of}
use Rattle.cnf_form.proofs.read.read_dimacs.Given as goal

abbrev pub invariant-loop-line : goal.invariant-loop-line
invariant-loop-line l = (formula_of l.fn.bytes ≡ formula_from l.number (lines l.rest)) × (l.number + length l.rest ≤ most_bytes)

abbrev pub decreases-loop-line : goal.decreases-loop-line
decreases-loop-line l = length l.rest
