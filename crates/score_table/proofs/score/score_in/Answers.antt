use Rattle.std.proofs.Common.{arith}
use Rattle.score_table.proofs.Scoring.{scored_all, scored_more}
use Rattle.score_table.proofs.score.score_in.Goals as goal

pub loop-o-preserved : goal.loop-o-preserved
loop-o-preserved c =
    scored_more c.args.criterion c.args.duties.now c.args.covered.now c.loop-o.o c.loop-o.score c.with_duty-score.result _ c.is_of.result c.get.result c.loop-o-test.true c.requires.size
    c.is_of.ensures c.get.ensures c.with_duty-score.ensures.total c.with_duty-score.ensures.covered c.loop-o.invariant

pub returns-clause-covered : goal.returns-clause-covered
returns-clause-covered c =
    let past = c.loop-o-test.false in
    (scored_all c.args.criterion c.args.duties.now c.args.covered.now c.loop-o.o c.loop-o.score (omega (arith, past)) c.requires.size c.loop-o.invariant).1
