use Rattle.std.proofs.Common.{subst, sym}
use Rattle.std.specs.Prelude.{All}
use Rattle.std.proofs.lemmas.Result.{IfOk-weaker}
use Rattle.cov_report.specs.Json.{IsPrintable}
use Rattle.op_network.specs.declared.test.Test.{Test}
use Rattle.score_table.specs.Tables.{Tabled}
use Rattle.cov_station.specs.ScoreText.{ScoreText}
use Rattle.cov_station.specs.Scores.{NetworkScore}
use Rattle.cov_station.proofs.SourceScores.{source_score}
use Rattle.cov_station.proofs.TableReports.{names_printable}
use Rattle.cov_station.proofs.scores.score_text.Goals as goal

-- the tests of the table are those of the suite
pub report_of-requires-clause-names : goal.report_of-requires-clause-names
report_of-requires-clause-names c =
    subst (λ (table : Tabled). All (λ (test : Test). IsPrintable test.name) table.tests) (sym c.in_ok-table.ensures) (names_printable c.args.tests c.requires.tests.named)

pub returns : goal.returns
returns c source is =
    let table = c.in_ok-table.table in
    IfOk-weaker c.report_of.result (NetworkScore table.network.network table.plan table.tests c.args.json) (ScoreText source c.args.plan c.args.tests c.args.json)
    (λ text score. source_score source table c.args.net c.args.plan c.args.tests c.args.json text is c.requires.tests c.in_ok-table.ensures score) c.report_of.ensures
