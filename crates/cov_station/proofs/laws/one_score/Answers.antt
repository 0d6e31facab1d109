use Rattle.cov_station.proofs.OneText.{one_score_text, sound}
use Rattle.cov_station.proofs.laws.one_score.Goals as goal

pub returns : goal.returns
returns c text width main source narrowest widest compiles plan tests json a b t u =
    one_score_text source plan tests json a b (sound text width main source narrowest widest compiles) t u
