use Rattle.std.proofs.Common.{◌≡◌, length}
use Rattle.dep_paths.specs.Near.{IsSound, AllNear, NoneRose, CountsEdges}
use Rattle.dep_paths.proofs.near.relax_all.Given as goal

abbrev pub invariant-loop-edge : goal.invariant-loop-edge
invariant-loop-edge l = record {
  long : length l.near ≡ length l.net.edges;
  all : AllNear l.near;
  sound : IsSound l.net l.near;
  lower : NoneRose l.initial.near l.near;
  counted : CountsEdges l.net.edges l.edge l.initial.near l.near;
}
