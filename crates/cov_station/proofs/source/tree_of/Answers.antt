use Rattle.std.proofs.Common.{refl}
use Rattle.cov_station.specs.Sources.{derives_none, parses}
use Rattle.cov_station.specs.Steps.{gives, refuses, runs_out}
use Rattle.cov_station.proofs.source.tree_of.Goals as goal

pub returns-in-Ok : goal.returns-in-Ok
returns-in-Ok c = gives (parses c.in-Ok.ensures.ok) refl

pub returns-in-Err-Token : goal.returns-in-Err-Token
returns-in-Err-Token c =
    rw c.byte_of.ensures (refuses (derives_none _ (rw c.in-Err-Token.field-0-is at c.in-Err-Token.ensures.refused)))

pub returns-in-Err-Memory : goal.returns-in-Err-Memory
returns-in-Err-Memory c = runs_out
