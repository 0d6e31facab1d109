use Rattle.std.proofs.Common.{◌≤◌, take}
use Rattle.std.specs.List.{All}
use Rattle.cov_report.proofs.tests.test_line.Given as goal

abbrev pub invariant-loop-byte : goal.invariant-loop-byte
invariant-loop-byte g l = All (λ b. (0x21 ≤ b) × (b ≤ 0x7E)) (take l.byte-index l.byte-items)
