use Rattle.std.proofs.Common.{subst, sym}
use Rattle.std.specs.Prelude.{Ok, Some}
use Rattle.cov_base.specs.Bytes.{Appends}
use Rattle.cov_station.specs.Commands.{station}
use Rattle.cov_station.proofs.Determined as determined
use Rattle.cov_station.proofs.OneStation.{station_once}
use Rattle.cov_station.proofs.Statuses.{done_of}
use Rattle.cov_station.proofs.laws.one_answer.Goals as goal

pub returns-clause-answer : goal.returns-clause-answer
returns-clause-answer c words told a b h t = determined.one_answer (station words (Some told)) (station_once words told) a b h t

pub returns-clause-ready : goal.returns-clause-ready
returns-clause-ready c words told why r h = determined.ready_apart (station words (Some told)) why (station_once words told) r h

pub returns-clause-done : goal.returns-clause-done
returns-clause-done c words told old new old' new' ends ends' =
    let done = done_of (station words (Some told)) old new ends in
    let done' = done_of (station words (Some told)) old' new' ends' in
    let same = determined.same_value (determined.one_answer (station words (Some told)) (station_once words told) (Ok done.0) (Ok done'.0) done.1 done'.1) in
    (done.0, done.2, subst (λ out. Appends old'.written out new'.written) (sym same) done'.2)
