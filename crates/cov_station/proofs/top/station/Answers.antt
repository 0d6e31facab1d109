use Rattle.std.proofs.Common.{◌∙◌, map}
use Rattle.std.specs.Prelude.{string_bytes}
use Rattle.cov_station.specs.Commands.{station}
use Rattle.cov_station.proofs.Endings.{done_ends, refused_ends, due_of}
use Rattle.cov_station.proofs.OneStation.{station_once}
use Rattle.cov_station.proofs.top.station.Goals as goal

pub returns-in-Ok-clause-ends : goal.returns-in-Ok-clause-ends
returns-in-Ok-clause-ends g c = done_ends _ _ c.in-Ok.ensures.answer c.in-Ok.ensures.counts c.as_slice.ensures c.finish.ensures.put

pub returns-in-Ok-clause-due : goal.returns-in-Ok-clause-due
returns-in-Ok-clause-due g c = due_of (station (map string_bytes c.args.args.now)) _ (station_once _) (returns-in-Ok-clause-ends g c)

pub returns-in-Ok-line-clause-ends : goal.returns-in-Ok-line-clause-ends
returns-in-Ok-line-clause-ends g c =
    refused_ends _ _ c.in-Err.ensures.answer c.in-Err.ensures.counts c.in-Ok-line.ensures.some (c.as_slice-in-Ok-line.ensures ∙ c.in-Ok-line.ensures.line) c.status.ensures c.finish-in-Ok-line.ensures.put

pub returns-in-Ok-line-clause-due : goal.returns-in-Ok-line-clause-due
returns-in-Ok-line-clause-due g c = due_of (station (map string_bytes c.args.args.now)) _ (station_once _) (returns-in-Ok-line-clause-ends g c)
