use Rattle.lus_types.specs.Graphs.{Numbers}
use Rattle.lus_types.proofs.calls.cycles.number_both.Given as goal

abbrev pub invariant-loop-place : goal.invariant-loop-place
invariant-loop-place l = Numbers l.first l.there l.back l.place l.initial.numbers l.numbers
