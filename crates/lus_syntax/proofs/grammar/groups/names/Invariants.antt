use Rattle.std.proofs.Common.{length}
use Rattle.lus_syntax.specs.Sections.{Anything, Begun, IsName}
use Rattle.lus_syntax.proofs.NamesAndGroups.{Next}
use Rattle.lus_syntax.proofs.grammar.groups.names.Given as goal

abbrev pub invariant-loop-more : goal.invariant-loop-more
invariant-loop-more l = Begun (IsName l.fn.text) (Next l.fn.text) Anything Anything l.fn.tokens l.names l.rest

abbrev pub decreases-loop-more : goal.decreases-loop-more
decreases-loop-more l = length l.rest
