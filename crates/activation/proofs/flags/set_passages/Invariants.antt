-- The gates so far have their passages.
use Rattle.activation.specs.Passing.{ArePassagesBelow}
use Rattle.activation.proofs.flags.set_passages.Given as goal

abbrev pub invariant-loop-i : goal.invariant-loop-i
invariant-loop-i l =
    ArePassagesBelow l.i l.edges l.frame l.begun l.gates l.passages
