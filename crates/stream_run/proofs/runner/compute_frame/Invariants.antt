use Rattle.std.proofs.Common.{take}
use Rattle.std.specs.Option.{option_map}
use Rattle.lus_causality.proofs.Frames.{Computed}
use Rattle.stream_run.proofs.runner.compute_frame.Given as goal

abbrev pub invariant-loop-e : goal.invariant-loop-e
invariant-loop-e l = Computed l.net.network.width l.net.network.edges (option_map (λ frame. frame.now) l.before) l.inputs (take l.e-index l.net.sequence) l.now
