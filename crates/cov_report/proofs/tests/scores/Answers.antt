use Rattle.std.proofs.Common.{[], ◌∷◌}
use Rattle.std.proofs.lemmas.List.Elements.{All-cons, All-nil}
use Rattle.cov_report.specs.Scores.{IsWithin}
use Rattle.cov_report.proofs.tests.scores.Goals as goal

pub returns : goal.returns
returns c =
    let fourth = c.score-4.result ∷ [] in
    let third = c.score-3.result ∷ fourth in
    All-cons IsWithin c.score.result (c.score-2.result ∷ third) c.score.ensures
    (All-cons IsWithin c.score-2.result third c.score-2.ensures
    (All-cons IsWithin c.score-3.result fourth c.score-3.ensures
    (All-cons IsWithin c.score-4.result [] c.score-4.ensures (All-nil IsWithin))))
