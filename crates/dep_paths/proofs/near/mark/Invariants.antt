use Rattle.std.proofs.Common.{◌≡◌, length, take}
use Rattle.dep_paths.specs.Near.{IsSound, AllNear, AreMarked}
use Rattle.dep_paths.proofs.near.mark.Given as goal

abbrev pub invariant-loop-output : goal.invariant-loop-output
invariant-loop-output l = record {
  long : length l.near ≡ length l.net.edges;
  all : AllNear l.near;
  sound : IsSound l.net l.near;
  marked : AreMarked l.near (take l.output-index l.net.outputs);
}
