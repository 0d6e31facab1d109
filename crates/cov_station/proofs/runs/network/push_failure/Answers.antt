use Rattle.cov_station.proofs.Failures.{failure_added}
use Rattle.cov_station.proofs.runs.network.push_failure.Goals as goal

pub returns-in_ok-add-in-Some : goal.returns-in_ok-add-in-Some
returns-in_ok-add-in-Some c =
    failure_added c.args.text.now c.extend_from_slice.new.self c.push_number.new.text c.add.new.self c.args.failed c.in-Some.t
    c.in-Some.is c.in_ok-extend_from_slice-in-Some.ensures.ok c.in_ok-push_number-in-Some.ensures c.in_ok-add-in-Some.ensures.ok
