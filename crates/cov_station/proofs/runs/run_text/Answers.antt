use Rattle.std.proofs.Common.{subst}
use Rattle.std.proofs.lemmas.Result.{IfOk-weaker}
use Rattle.op_network.specs.Valid.{IsValid}
use Rattle.cov_station.specs.NetworkText.{NetworkText}
use Rattle.cov_station.specs.RunText.{RunText}
use Rattle.cov_station.proofs.RunTexts.{network_text}
use Rattle.cov_station.proofs.runs.run_text.Goals as goal

pub returns : goal.returns
returns c = λ source are.
    let net = c.args.net.now in
    let tests = c.args.tests.now in
    let valid = subst IsValid c.network.ensures c.parts.ensures.valid in
    IfOk-weaker c.network_text.result (NetworkText net.network tests) (RunText source tests)
    (λ text. network_text source net tests text are valid c.requires) c.network_text.ensures
