use Rattle.std.proofs.Common.{take}
use Rattle.lus_causality.specs.Marks.{AreMarked}
use Rattle.lus_causality.specs.Causality.{operands_now}
use Rattle.lus_causality.proofs.marks.are_marked.Given as goal

abbrev pub invariant-loop-port : goal.invariant-loop-port
invariant-loop-port l = AreMarked (take l.port (operands_now l.network.edges l.e)) l.marks
