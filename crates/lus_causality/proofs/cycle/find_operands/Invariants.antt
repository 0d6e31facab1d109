use Rattle.std.proofs.Common.{take}
use Rattle.lus_causality.specs.Causality.{operands_now}
use Rattle.lus_causality.specs.Search.{IsSearch, IsFurther, HasOperands}
use Rattle.lus_causality.proofs.cycle.find_operands.Given as goal

abbrev pub invariant-loop-port : goal.invariant-loop-port
invariant-loop-port l =
    record {
      search : IsSearch l.network.edges l.e l.found;
      further : IsFurther l.fn.found l.found;
      has : HasOperands l.taken (take l.port (operands_now l.network.edges l.b)) l.found;
    }
