use Rattle.std.proofs.Common.{◌≡◌, ◌<◌, ℕ, length}
use Rattle.lus_types.specs.Graphs.{number}
use Rattle.lus_types.proofs.calls.cycles.places.Given as goal

abbrev pub invariant-loop-place : goal.invariant-loop-place
invariant-loop-place l = record {
  long : length l.numbers ≡ l.place;
  own : (g : ℕ) → g < l.place → number l.numbers g ≡ g;
}
