use Rattle.stream_run.specs.Firings.{IsFiringOf}
use Rattle.stream_run.proofs.tests.fire_in_order.Given as goal

abbrev pub invariant-loop-e : goal.invariant-loop-e
invariant-loop-e l = IsFiringOf l.net l.firing
