use Rattle.std.proofs.Common.{◌≡◌, length}
use Rattle.dep_paths.specs.Near.{IsSound, AllNear, NoneRose, CountsPorts}
use Rattle.dep_paths.proofs.near.relax_edge.Given as goal

abbrev pub invariant-loop-port : goal.invariant-loop-port
invariant-loop-port l = record {
  long : length l.near ≡ length l.net.edges;
  all : AllNear l.near;
  sound : IsSound l.net l.near;
  lower : NoneRose l.initial.near l.near;
  counted : CountsPorts l.net.edges l.edge l.port l.initial.near l.near;
}
