use Rattle.std.proofs.Common.{refl}
use Rattle.cov_station.specs.Sources.{is_crowded, is_uncrowded}
use Rattle.cov_station.specs.Steps.{gives, refuses}
use Rattle.cov_station.proofs.source.check_crowd.Goals as goal

pub returns-in-Some : goal.returns-in-Some
returns-in-Some c = refuses (is_crowded c.in-Some.field-0 c.in-Some.ensures.some.crowd)

pub returns-in-None : goal.returns-in-None
returns-in-None c = gives (is_uncrowded c.in-None.ensures.none) refl
