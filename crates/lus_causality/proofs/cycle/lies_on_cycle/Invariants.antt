use Rattle.std.proofs.Common.{◌-◌, ◌≤◌, length}
use Rattle.lus_causality.specs.Causality.{operands_now}
use Rattle.lus_causality.specs.Search.{IsSearch, HasOperands, AreFollowed}
use Rattle.lus_causality.proofs.cycle.lies_on_cycle.Given as goal

abbrev pub invariant-loop-next : goal.invariant-loop-next
invariant-loop-next l =
    record {
      search : IsSearch l.network.edges l.e l.found;
      has : HasOperands l.taken.marks (operands_now l.network.edges l.e) l.found;
      followed : AreFollowed l.network.edges l.taken.marks l.found l.next;
      within : l.next ≤ length l.found.sequence;
    }

abbrev pub decreases-loop-next : goal.decreases-loop-next
decreases-loop-next l = length l.network.edges - l.next
