use Rattle.std.proofs.Common.{◌≡◌, ◌++◌, drop, map}
use Rattle.std.specs.Io.{StartsWith}
use Rattle.cnf_form.specs.Lines.{unlines}
use Rattle.cnf_form.specs.Written.{clause_line}
use Rattle.cnf_form.proofs.write.push_clauses.Given as goal

abbrev pub invariant-loop-clause : goal.invariant-loop-clause
invariant-loop-clause l =
    (l.fn.out ++ unlines (map clause_line l.fn.clauses) ≡ l.out ++ unlines (map clause_line (drop l.clause-index l.fn.clauses)))
    × StartsWith l.out l.fn.out
