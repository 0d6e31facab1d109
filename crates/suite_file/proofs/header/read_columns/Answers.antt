use Rattle.std.proofs.Common.{◌∙◌, length, arith}
use Rattle.suite_file.proofs.Columns.{column_more}
use Rattle.suite_file.proofs.Places.{length_last}
use Rattle.suite_file.proofs.header.read_columns.Goals as goal

pub loop-c-preserved : goal.loop-c-preserved
loop-c-preserved c =
    let none = c.in_ok-add_column.ensures.none in
    let added = c.in_ok-add_column.ensures.added in
    (rw added (c.loop-c.invariant.0 ∙ column_more _ _ c.loop-c.c _ _ c.in-Some.ensures none), rw added (omega (arith, length_last c.loop-c.columns (c.in-Some.name.now, length c.loop-c.columns), c.loop-c.invariant.1)), c.in_ok-add_column.ensures.types)
