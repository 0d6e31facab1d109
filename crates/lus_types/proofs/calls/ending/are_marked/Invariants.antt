use Rattle.std.proofs.Common.{take}
use Rattle.lus_types.specs.Graphs.{AllMarked}
use Rattle.lus_types.proofs.calls.ending.are_marked.Given as goal

abbrev pub invariant-loop-place : goal.invariant-loop-place
invariant-loop-place l = AllMarked l.marks (take l.place-index l.places)
