use Rattle.std.proofs.Common.{◌≡◌, length}
use Rattle.omcdc_tags.proofs.tags.tests.expect.Given as goal

abbrev pub invariant-loop-digits : goal.invariant-loop-digits
invariant-loop-digits g l = length l.tags.sets.reached ≡ length l.net.network.edges
