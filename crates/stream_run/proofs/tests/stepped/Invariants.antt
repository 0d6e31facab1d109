use Rattle.std.proofs.Common.{◌≡◌, length}
use Rattle.stream_run.proofs.tests.stepped.Given as goal

abbrev pub invariant-loop-t : goal.invariant-loop-t
invariant-loop-t g l =
    record {
      size : length l.runner.frame ≡ length l.net.network.edges;
      instant : l.runner.instant ≡ l.t;
    }
