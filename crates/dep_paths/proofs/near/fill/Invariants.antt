use Rattle.std.proofs.Common.{◌≡◌, length}
use Rattle.dep_paths.specs.Near.{IsSound, Knows, AllNear}
use Rattle.dep_paths.proofs.near.fill.Given as goal

abbrev pub invariant-loop-round : goal.invariant-loop-round
invariant-loop-round l = record {
  long : length l.near ≡ length l.net.edges;
  all : AllNear l.near;
  sound : IsSound l.net l.near;
  knows : Knows l._round l.net l.near;
}
