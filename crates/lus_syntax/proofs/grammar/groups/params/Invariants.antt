use Rattle.std.proofs.Common.{length}
use Rattle.lus_syntax.proofs.Params.{ParamsPartway}
use Rattle.lus_syntax.proofs.grammar.groups.params.Given as goal

abbrev pub invariant-loop-more : goal.invariant-loop-more
invariant-loop-more l = ParamsPartway l.fn.text l.fn.tokens l.groups l.rest

abbrev pub decreases-loop-more : goal.decreases-loop-more
decreases-loop-more l = length l.rest
