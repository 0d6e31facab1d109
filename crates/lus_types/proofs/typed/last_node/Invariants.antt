use Rattle.lus_types.proofs.Main.{IsLastBefore}
use Rattle.lus_types.proofs.typed.last_node.Given as goal

abbrev pub invariant-loop-place : goal.invariant-loop-place
invariant-loop-place l = IsLastBefore l.decls l.place l.last
