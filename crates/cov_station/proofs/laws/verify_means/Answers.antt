use Rattle.cov_station.specs.Commands.{station}
use Rattle.cov_station.proofs.Refuted.{refuted}
use Rattle.cov_station.proofs.Statuses.{done_of}
use Rattle.cov_station.proofs.laws.verify_means.Goals as goal

pub returns : goal.returns
returns c words files old new job means verifies ends =
    let done = done_of (station words files) old new ends in
    refuted words files job done.0 means verifies done.1
