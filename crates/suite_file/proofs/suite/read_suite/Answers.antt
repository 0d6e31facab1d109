use Rattle.std.proofs.Common.{◌≡◌, Ok, rules}
use Rattle.std.specs.Prelude.{IfOk}
use Rattle.std.proofs.lemmas.Result.{IfOk-weaker}
use Rattle.suite_file.specs.Suites.{suite_of, AreOfSuite}
use Rattle.suite_file.specs.Meaning.{AreRecordsOf}
use Rattle.suite_file.specs.Records.{suite_records}
use Rattle.suite_file.proofs.Meaning.{suite_means}
use Rattle.suite_file.proofs.Fitting.{suite_fits}
use Rattle.suite_file.proofs.suite.read_suite.Goals as goal

pub returns-clause-fits : goal.returns-clause-fits
returns-clause-fits c =
    let ok : IfOk c.read_tests.result (λ tests. suite_of c.args.net.now c.args.bytes.now ≡ Ok tests) = search rules in
    IfOk-weaker c.read_tests.result (λ tests. suite_of c.args.net.now c.args.bytes.now ≡ Ok tests) (AreOfSuite c.args.net.now) (λ tests h. suite_fits c.args.net.now c.args.bytes.now tests c.parts-parts.ensures.valid h) ok

pub returns-clause-means : goal.returns-clause-means
returns-clause-means c =
    let ok : IfOk c.read_tests.result (λ tests. suite_of c.args.net.now c.args.bytes.now ≡ Ok tests) = search rules in
    IfOk-weaker c.read_tests.result (λ tests. suite_of c.args.net.now c.args.bytes.now ≡ Ok tests) (AreRecordsOf c.args.net.now (suite_records c.args.bytes.now)) (λ tests h. suite_means c.args.net.now c.args.bytes.now tests c.parts-parts.ensures.valid h) ok
