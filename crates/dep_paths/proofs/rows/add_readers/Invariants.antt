use Rattle.std.proofs.Common.{◌≡◌, length}
use Rattle.dep_paths.specs.Levels.{steps_through, AddsReaders}
use Rattle.dep_paths.proofs.rows.add_readers.Given as goal

abbrev pub invariant-loop-port : goal.invariant-loop-port
invariant-loop-port l = record {
  long : length l.rows ≡ length l.net.edges;
  added : AddsReaders l.net.edges l.near l.room (steps_through l.edge l.port) l.initial.rows l.rows;
}
