use Rattle.std.proofs.Common.{◌∙◌, ap, arith, length}
use Rattle.std.proofs.lemmas.Option.{slice_get_within}
use Rattle.score_table.proofs.Watched.{marked_up_to}
use Rattle.score_table.proofs.running.mark_all.Goals as goal

pub loop-o-preserved : goal.loop-o-preserved
loop-o-preserved c = record {
  size = c.mark.ensures.size;
  marked = λ parts frames seen some k below.
      marked_up_to parts c.args.plan.now frames c.loop-o.o k c.args.covered.now c.loop-o.covered c.mark.new.covered (c.loop-o.invariant.marked parts frames seen some) c.loop-o.invariant.later
      (c.mark.ensures.marked parts frames seen some) c.mark.ensures.others below;
  later = λ k above. c.mark.ensures.others k (λ e. omega (arith, e, above)) ∙ c.loop-o.invariant.later k (omega (arith, above));
}

pub returns-clause-marked : goal.returns-clause-marked
returns-clause-marked c = λ parts frames seen some k duty there.
    let size = ap length c.duties.ensures in
    let past = c.loop-o-test.false in
    let within = slice_get_within c.args.plan.now.duties k duty there in
    c.loop-o.invariant.marked parts frames seen some k (omega (arith, size, past, within)) duty there
