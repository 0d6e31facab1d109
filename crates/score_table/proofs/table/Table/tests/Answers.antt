use Rattle.std.proofs.Common.{List, subst}
use Rattle.score_table.specs.Runs.{AreTestRuns, TestRun}
use Rattle.score_table.specs.Tables.{Tabled}
use Rattle.score_table.proofs.Answering.{runs_told}
use Rattle.score_table.proofs.table.Table.tests.Goals as goal

pub returns-clause-runs : goal.returns-clause-runs
returns-clause-runs c =
    subst (λ (table : Tabled). (runs : List TestRun) × AreTestRuns table.network.network table.plan table.tests runs) c.self.view_is
    (runs_told c.self.inside.network c.self.inside.plan c.self.inside.kept c.self.inside.watch c.self.invariant)
