use Rattle.std.proofs.Common.{◌≡◌, [], length}
use Rattle.cnf_form.specs.Lines.{words}
use Rattle.cnf_form.specs.Lits.{with_lit}
use Rattle.proof_check.specs.Lrat.{listed, as_lit}
use Rattle.proof_check.proofs.read.read_lits.Given as goal

abbrev pub invariant-loop-word : goal.invariant-loop-word
invariant-loop-word l = listed as_lit with_lit l.line [] (words l.fn.text) ≡ listed as_lit with_lit l.line l.builder (words l.rest)

abbrev pub decreases-loop-word : goal.decreases-loop-word
decreases-loop-word l = length l.rest
