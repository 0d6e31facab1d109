use Rattle.std.proofs.Common.{[]}
use Rattle.std.proofs.lemmas.List.Elements.{All-cons, All-nil}
use Rattle.cov_report.specs.declared.json.TestLine.{TestLine}
use Rattle.cov_report.specs.Json.{IsPrintable}
use Rattle.cov_report.proofs.tests.json_is.Goals as goal

pub score_json-requires : goal.score_json-requires
score_json-requires g c =
    let named = λ (test : TestLine). IsPrintable test.name in
    record { names = All-cons named c.args.test [] c.requires (All-nil named) }
