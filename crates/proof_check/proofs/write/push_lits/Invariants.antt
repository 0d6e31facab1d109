use Rattle.std.proofs.Common.{◌≡◌, ◌++◌, drop, map}
use Rattle.cnf_form.specs.Written.{lit_text}
use Rattle.std.specs.Io.{StartsWith}
use Rattle.proof_check.specs.Written.{spaced}
use Rattle.proof_check.proofs.write.push_lits.Given as goal

abbrev pub invariant-loop-lit : goal.invariant-loop-lit
invariant-loop-lit l =
    (l.fn.out ++ spaced (map lit_text l.fn.lits) ≡ l.out ++ spaced (map lit_text (drop l.lit-index l.fn.lits)))
    × StartsWith l.out l.fn.out
