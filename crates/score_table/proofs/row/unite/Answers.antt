use Rattle.std.proofs.Common.{◌≡◌, length, sym, subst}
use Rattle.score_table.specs.declared.row.TestRow.{TestRow}
use Rattle.score_table.proofs.Unions.{union_more, wide_more}
use Rattle.score_table.proofs.row.unite.Goals as goal

pub loop-row-preserved : goal.loop-row-preserved
loop-row-preserved c = record {
  size = wide_more (length c.args.covered.now) c.loop-row.covered c.or_with.new.self c.row-item.result c.loop-row.invariant.size
      (subst (λ (row : TestRow). length row.covered ≡ length c.args.covered.now) (sym c.row-item.is) (c.requires c.loop-row.row-index c.row-item.result c.loop-row-test.true))
      c.or_with.ensures;
  united = union_more (length c.args.covered.now) c.loop-row.row-index c.args.rows.now c.row-item.result c.loop-row.covered c.or_with.new.self c.loop-row-test.true c.row-item.is c.loop-row.invariant.united c.or_with.ensures;
}
