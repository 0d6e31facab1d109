use Rattle.std.proofs.Common.{◌≡◌, ◌++◌, codes, drop}
use Rattle.std.specs.Io.{StartsWith}
use Rattle.cnf_form.specs.Written.{clause_line}
use Rattle.cnf_form.proofs.write.push_clause.Given as goal

abbrev pub invariant-loop-lit : goal.invariant-loop-lit
invariant-loop-lit l =
    (l.fn.out ++ (clause_line l.fn.lits ++ codes "\n") ≡ l.out ++ (clause_line (drop l.lit-index l.fn.lits) ++ codes "\n"))
    × StartsWith l.out l.fn.out
