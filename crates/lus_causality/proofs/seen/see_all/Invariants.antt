use Rattle.std.proofs.Common.{◌-◌, ◌≤◌, length}
use Rattle.lus_causality.specs.Seen.{AreFollowedBelow, IsMarkedList}
use Rattle.lus_causality.proofs.seen.see_all.Given as goal

abbrev pub invariant-loop-next : goal.invariant-loop-next
invariant-loop-next l =
    record {
      list : IsMarkedList l.network.edges l.seen;
      followed : AreFollowedBelow l.network.edges l.seen l.next;
      within : l.next ≤ length l.seen.sequence;
    }

abbrev pub decreases-loop-next : goal.decreases-loop-next
decreases-loop-next l = length l.network.edges - l.next
