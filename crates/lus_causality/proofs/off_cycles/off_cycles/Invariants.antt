use Rattle.lus_causality.specs.Seen.{AreOff, IsClosed, IsMarkedList}
use Rattle.lus_causality.proofs.off_cycles.off_cycles.Given as goal

abbrev pub invariant-loop-place : goal.invariant-loop-place
invariant-loop-place l =
    record {
      list : IsMarkedList l.network.edges l.seen;
      closed : IsClosed l.network.edges l.seen;
      off : AreOff l.network.edges l.off;
    }
