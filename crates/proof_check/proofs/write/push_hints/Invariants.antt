use Rattle.std.proofs.Common.{◌≡◌, ◌++◌, drop, map}
use Rattle.std.specs.Fmt.{signed_decimal}
use Rattle.std.specs.Io.{StartsWith}
use Rattle.proof_check.specs.Written.{spaced}
use Rattle.proof_check.proofs.write.push_hints.Given as goal

abbrev pub invariant-loop-hint : goal.invariant-loop-hint
invariant-loop-hint l =
    (l.fn.out ++ spaced (map signed_decimal l.fn.hints) ≡ l.out ++ spaced (map signed_decimal (drop l.hint-index l.fn.hints)))
    × StartsWith l.out l.fn.out
