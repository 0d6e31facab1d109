use Rattle.std.proofs.Common.{◌≡◌, ◌+◌}
use Rattle.score_table.proofs.Tested.{Tested}
use Rattle.score_table.proofs.running.run_test.Given as goal

abbrev pub invariant-loop-t : goal.invariant-loop-t
invariant-loop-t g l =
    record {
      tested : Tested l.net.network l.plan l.test l.t l.runner l.rest l.watch l.covered;
      cost : l.steps ≡ l.fn.steps + l.t;
    }
