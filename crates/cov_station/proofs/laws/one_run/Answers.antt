use Rattle.cov_station.proofs.OneText.{one_run_text, sound}
use Rattle.cov_station.proofs.laws.one_run.Goals as goal

pub returns : goal.returns
returns c text width main source narrowest widest compiles tests a b t u =
    one_run_text source tests a b (sound text width main source narrowest widest compiles) t u
