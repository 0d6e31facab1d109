use Rattle.std.proofs.Common.{take}
use Rattle.cov_station.specs.NetworkText.{NetworkText}
use Rattle.cov_station.proofs.runs.network.text_of.Given as goal

abbrev pub invariant-loop-test : goal.invariant-loop-test
invariant-loop-test g l = NetworkText l.net.network (take l.test-index l.tests) l.text
