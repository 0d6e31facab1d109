use Rattle.std.proofs.Common.{◌≡◌, ◌∙◌, ap, length, sym, subst}
use Rattle.score_table.specs.Coverage.{score_of}
use Rattle.score_table.specs.Tables.{OfRuns, Tabled}
use Rattle.score_table.proofs.Answering.{score_told}
use Rattle.score_table.proofs.KeptTests.{kept_wide}
use Rattle.score_table.proofs.table.Table.score.Goals as goal

pub score_in-requires-clause-size : goal.score_in-requires-clause-size
score_in-requires-clause-size c =
    let inside = c.self.inside in
    kept_wide inside.network.network inside.plan inside.kept c.self.invariant.tests ∙ sym (ap length c.duties.ensures)

pub returns : goal.returns
returns c =
    subst (λ (table : Tabled). OfRuns table (λ runs. c.score_in.result ≡ score_of table.plan runs c.args.criterion)) c.self.view_is
    (score_told c.self.inside.network c.self.inside.plan c.self.inside.kept c.self.inside.watch c.args.criterion c.score_in.result c.duties.result.now c.self.invariant c.duties.ensures c.score_in.ensures.total c.score_in.ensures.covered)
