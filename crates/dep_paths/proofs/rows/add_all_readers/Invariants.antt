use Rattle.std.proofs.Common.{◌≡◌, length}
use Rattle.dep_paths.specs.Levels.{steps_below, AddsReaders}
use Rattle.dep_paths.proofs.rows.add_all_readers.Given as goal

abbrev pub invariant-loop-edge : goal.invariant-loop-edge
invariant-loop-edge l = record {
  long : length l.rows ≡ length l.net.edges;
  added : AddsReaders l.net.edges l.near l.room (steps_below l.net.edges l.edge) l.initial.rows l.rows;
}
