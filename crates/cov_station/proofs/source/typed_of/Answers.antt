use Rattle.std.proofs.Common.{sym}
use Rattle.cov_station.specs.Sources.{has_types, is_badly_typed}
use Rattle.cov_station.specs.Steps.{gives, refuses, runs_out}
use Rattle.cov_station.proofs.SourceSteps.{typed_source}
use Rattle.cov_station.proofs.source.typed_of.Goals as goal

pub returns-in-Ok : goal.returns-in-Ok
returns-in-Ok c =
    gives (has_types c.in-Ok.typed.main c.in-Ok.ensures.accepted)
    (sym (typed_source c.in-Ok.typed c.args.tree c.args.width c.in-Ok.ensures.tree c.in-Ok.ensures.at_width))

pub returns-in-Err-Bad : goal.returns-in-Err-Bad
returns-in-Err-Bad c = refuses (is_badly_typed (rw c.in-Err-Bad.field-0-is at c.in-Err-Bad.ensures.refused))

pub returns-in-Err-Memory : goal.returns-in-Err-Memory
returns-in-Err-Memory c = runs_out
