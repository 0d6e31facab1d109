use Rattle.cov_station.proofs.TableScores.{four_are, four_within}
use Rattle.cov_station.proofs.scores.text.scores_in.Goals as goal

pub returns : goal.returns
returns c =
    let runs = c.tests.ensures.runs in
    record {
      scores = λ some ran. four_are c.args.table.now some c.score.result c.score-2.result c.score-3.result c.score-4.result ran c.score.ensures c.score-2.ensures c.score-3.ensures c.score-4.ensures;
      within = four_within c.args.table.now runs.0 c.score.result c.score-2.result c.score-3.result c.score-4.result runs.1 c.score.ensures c.score-2.ensures c.score-3.ensures c.score-4.ensures;
    }
