-- The nodes so far have their flags.
use Rattle.activation.specs.Passing.{AreFlagsBelow}
use Rattle.activation.proofs.flags.set_flags.Given as goal

abbrev pub invariant-loop-i : goal.invariant-loop-i
invariant-loop-i l =
    AreFlagsBelow l.i l.nodes l.passages l.before l.flags
