use Rattle.std.proofs.Common.{take}
use Rattle.lus_causality.specs.Causality.{operands_now}
use Rattle.lus_causality.specs.Search.{IsFurther}
use Rattle.lus_causality.specs.Seen.{AreListed, IsMarkedList}
use Rattle.lus_causality.proofs.seen.see_operands.Given as goal

abbrev pub invariant-loop-port : goal.invariant-loop-port
invariant-loop-port l =
    record {
      list : IsMarkedList l.network.edges l.seen;
      further : IsFurther l.fn.seen l.seen;
      listed : AreListed (take l.port (operands_now l.network.edges l.b)) l.seen;
    }
