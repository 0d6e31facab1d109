use Rattle.std.proofs.Common.{◌∙◌, sym}
use Rattle.score_table.proofs.KeptTests.{kept_wide}
use Rattle.score_table.proofs.OneTestRun.{row_wide}
use Rattle.score_table.proofs.table.Table.add.Goals as goal

pub append-requires-clause-size : goal.append-requires-clause-size
append-requires-clause-size g c =
    let inside = c.self.inside in
    row_wide inside.network.network inside.plan c.args.test c.in-Ok.row c.in-Ok.ensures.row ∙ sym (kept_wide inside.network.network inside.plan inside.kept c.self.invariant.tests)
