use Rattle.std.proofs.Common.{◌-◌, length}
use Rattle.lus_types.specs.Graphs.{IsSearch}
use Rattle.lus_types.proofs.calls.search.reach.Given as goal

abbrev pub invariant-loop-next : goal.invariant-loop-next
invariant-loop-next l = IsSearch l.rows l.start l.next l.search

abbrev pub decreases-loop-next : goal.decreases-loop-next
decreases-loop-next l = length l.rows - l.next
