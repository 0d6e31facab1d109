use Rattle.std.proofs.Common.{◌≡◌, ◌++◌, drop}
use Rattle.std.specs.Io.{StartsWith}
use Rattle.proof_check.specs.Written.{proof_text}
use Rattle.proof_check.proofs.write.push_steps.Given as goal

abbrev pub invariant-loop-step : goal.invariant-loop-step
invariant-loop-step l =
    (l.fn.out ++ proof_text l.fn.steps ≡ l.out ++ proof_text (drop l.step-index l.fn.steps))
    × StartsWith l.out l.fn.out
