use Rattle.std.proofs.Common.{◌≡◌, false}
use Rattle.stream_run.specs.Firings.{IsFiringOf}
use Rattle.stream_run.proofs.tests.fired.Given as goal

abbrev pub invariant-loop-x : goal.invariant-loop-x
invariant-loop-x l =
    record {
      of : IsFiringOf l.net l.firing;
      closed : l.firing.under_way ≡ false;
    }
