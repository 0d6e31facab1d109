use Rattle.std.proofs.Common.{◌≡◌, ◌++◌, drop}
use Rattle.std.specs.List.{flat_map}
use Rattle.suite_file.specs.Written.{test_records, text_of, suite_text}
use Rattle.suite_file.specs.Writing.{written, IsWriting}
use Rattle.suite_file.proofs.write.write_suite.Given as goal

abbrev pub invariant-loop-test : goal.invariant-loop-test
invariant-loop-test l = (suite_text l.fn.net l.fn.tests ≡ written l.writer ++ text_of (flat_map (test_records l.fn.net) (drop l.test-index l.fn.tests))) × IsWriting l.writer
