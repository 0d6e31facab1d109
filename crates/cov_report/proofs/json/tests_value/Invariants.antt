use Rattle.std.proofs.Common.{◌≡◌, map, take}
use Rattle.serde_json.specs.View.{view}
use Rattle.cov_report.specs.Json.{test_data}
use Rattle.cov_report.proofs.json.tests_value.Given as goal

abbrev pub invariant-loop-test : goal.invariant-loop-test
invariant-loop-test l = map view l.values.items ≡ map test_data (take l.test-index l.tests)
