use Rattle.std.proofs.Common.{◌≡◌, length}
use Rattle.lus_causality.specs.Search.{NoneBelow}
use Rattle.lus_causality.proofs.cycle.least_on_cycle.Given as goal

abbrev pub invariant-loop-e : goal.invariant-loop-e
invariant-loop-e l =
    record {
      none : NoneBelow l.network.edges l.e;
      size : length l.found.marks ≡ length l.network.edges;
    }
