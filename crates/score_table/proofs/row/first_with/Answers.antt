use Rattle.std.proofs.Common.{◌∙◌, ap, arith, false, get_or, sym}
use Rattle.score_table.specs.declared.row.TestRow.{TestRow}
use Rattle.score_table.proofs.Unions.{position_at, position_nowhere}
use Rattle.score_table.proofs.row.first_with.Goals as goal

pub returns-then-get : goal.returns-then-get
returns-then-get c =
    position_at (λ (row : TestRow). get_or row.covered c.args.o false) c.args.rows.now c.loop-place.place c.index-rows-place.result c.loop-place-test.true
    (λ k lt. c.loop-place.invariant k c.index-rows-place.result lt)
    (ap (λ (row : TestRow). get_or row.covered c.args.o false) (sym c.index-rows-place.is) ∙ sym c.get.ensures ∙ c.if-get.true)

pub returns : goal.returns
returns c = position_nowhere (λ (row : TestRow). get_or row.covered c.args.o false) c.args.rows.now (λ k d lt. c.loop-place.invariant k d (let past = c.loop-place-test.false in omega (arith, past, lt)))
