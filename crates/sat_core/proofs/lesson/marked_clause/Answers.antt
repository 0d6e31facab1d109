use Rattle.std.proofs.Common.{arith}
use Rattle.sat_core.proofs.Learning.{Part-skip, Part-more}
use Rattle.sat_core.proofs.lesson.marked_clause.Goals as goal
use Rattle.sat_core.proofs.lesson.marked_clause.Goals.{then-is_marked+in_ok-add, else-is_marked}

pub loop-k-preserved : goal.loop-k-preserved
loop-k-preserved c = elim c.if-is_marked.branch [
  | then-is_marked+in_ok-add w ↦ rw (w.lits-is, w.in_ok-add.ensures.ok) (Part-more _ _ _ _ _ c.requires.apart (omega arith) w.if-is_marked.true w.negated.ensures c.loop-k.invariant)
  | else-is_marked w ↦ rw w.lits-is (Part-skip _ _ _ _ w.if-is_marked.false c.loop-k.invariant)
]
