use Rattle.std.proofs.Common.{◌≡◌, map, take}
use Rattle.cnf_form.specs.Lits.{turned}
use Rattle.bit_blast.proofs.word.inverted.Given as goal

abbrev pub invariant-loop-lit : goal.invariant-loop-lit
invariant-loop-lit l = l.word ≡ map turned (take l.lit-index l.a)
