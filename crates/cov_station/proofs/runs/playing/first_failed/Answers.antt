use Rattle.std.proofs.Common.{◌∙◌}
use Rattle.cov_station.proofs.Failures.{asserts_are, none_failed}
use Rattle.cov_station.specs.NetworkText.{are_asserted}
use Rattle.cov_station.proofs.runs.playing.first_failed.Goals as goal

pub returns-then-asserts_hold : goal.returns-then-asserts_hold
returns-then-asserts_hold c =
    let parts = c.args.net.now.network in
    let frame = c.args.runner.now.frame in
    none_failed c.args.failed (are_asserted parts frame) _ c.in-None.is
    (asserts_are parts frame c.asserts_hold.result c.asserts_hold.ensures ∙ c.if-asserts_hold.true)
