use Rattle.std.proofs.Common.{length}
use Rattle.lus_syntax.specs.Sections.{Anything, Begun, Line}
use Rattle.lus_syntax.proofs.grammar.groups.lines.Given as goal

abbrev pub invariant-lines : goal.invariant-lines
invariant-lines l = Begun (Line l.fn.text) (Line l.fn.text) Anything Anything l.fn.tokens l.groups l.rest

abbrev pub decreases-lines : goal.decreases-lines
decreases-lines l = length l.rest
