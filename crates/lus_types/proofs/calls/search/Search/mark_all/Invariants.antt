use Rattle.std.proofs.Common.{take}
use Rattle.lus_types.specs.Graphs.{Marks}
use Rattle.lus_types.proofs.calls.search.Search.mark_all.Given as goal

abbrev pub invariant-loop-place : goal.invariant-loop-place
invariant-loop-place l = Marks (take l.place-index l.places) l.initial.self l.self
