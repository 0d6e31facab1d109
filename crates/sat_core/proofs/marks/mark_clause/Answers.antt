use Rattle.std.proofs.Common.{arith, sym, get_or}
use Rattle.sat_core.proofs.Marking.{below-at, AreMarked-skip-at, AreMarked-more-at, no_lit}
use Rattle.sat_core.proofs.marks.mark_clause.Goals as goal
use Rattle.sat_core.proofs.marks.mark_clause.Goals.{then-not-is_skipped, else-not-is_skipped}

pub mark_lit-requires-clause-inside : goal.mark_lit-requires-clause-inside
mark_lit-requires-clause-inside c = below-at _ c.args.lits.now c.loop-lit.lit-index no_lit c.requires.inside (omega arith)

pub loop-lit-preserved : goal.loop-lit-preserved
loop-lit-preserved c = elim c.if-not-is_skipped.branch [
  | then-not-is_skipped w ↦ record {
    marks = rw w.seen-is (AreMarked-more-at _ c.args.lits.now c.loop-lit.lit-index c.args.skip _ c.loop-lit.seen _ (omega arith) (sym w.if-not-is_skipped.ensures) (λ k p. let h = c.requires.fits (get_or c.args.lits.now c.loop-lit.lit-index no_lit) k p in omega arith) w.mark_lit.ensures.seen c.loop-lit.invariant.marks);
    count = rw (w.count-is, w.seen-is) w.mark_lit.ensures.count;
  }
  | else-not-is_skipped w ↦ record {
    marks = rw w.seen-is (AreMarked-skip-at _ c.args.lits.now c.loop-lit.lit-index c.args.skip _ c.loop-lit.seen (omega arith) (sym w.if-not-is_skipped.ensures) c.loop-lit.invariant.marks);
    count = rw (w.count-is, w.seen-is) c.loop-lit.invariant.count;
  }
]
