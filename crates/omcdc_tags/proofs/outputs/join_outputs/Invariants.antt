use Rattle.std.proofs.Common.{false, length, replicate}
use Rattle.omcdc_tags.specs.Rows.{Adds, OutputHasBelow}
use Rattle.omcdc_tags.proofs.outputs.join_outputs.Given as goal

abbrev pub invariant-loop-output : goal.invariant-loop-output
invariant-loop-output l = Adds (replicate (length l.fn.joined) false) l.joined (OutputHasBelow l.outputs l.rows l.output-index)
