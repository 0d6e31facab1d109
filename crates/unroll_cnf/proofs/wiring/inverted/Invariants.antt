use Rattle.std.proofs.Common.{◌≡◌, map, take}
use Rattle.cnf_form.specs.Lits.{turned}
use Rattle.unroll_cnf.proofs.wiring.inverted.Given as goal

abbrev pub invariant-loop-lit : goal.invariant-loop-lit
invariant-loop-lit l = l.turned ≡ map turned (take l.lit-index l.word)
