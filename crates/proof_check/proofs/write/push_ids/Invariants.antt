use Rattle.std.proofs.Common.{◌≡◌, ◌++◌, drop, map}
use Rattle.std.specs.Prelude.{decimal}
use Rattle.std.specs.Io.{StartsWith}
use Rattle.proof_check.specs.Written.{spaced}
use Rattle.proof_check.proofs.write.push_ids.Given as goal

abbrev pub invariant-loop-id : goal.invariant-loop-id
invariant-loop-id l =
    (l.fn.out ++ spaced (map decimal l.fn.ids) ≡ l.out ++ spaced (map decimal (drop l.id-index l.fn.ids)))
    × StartsWith l.out l.fn.out
