use Rattle.std.proofs.Common.{◌≡◌, take}
use Rattle.cnf_form.specs.Shape.{shape}
use Rattle.bit_blast.proofs.maker.copied.Given as goal

-- the copy has the first clauses
abbrev pub invariant-loop-clause : goal.invariant-loop-clause
invariant-loop-clause l = l.copy ≡ shape l.formula.vars (take l.clause-index l.formula.clauses)
