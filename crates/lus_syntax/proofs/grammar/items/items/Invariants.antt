use Rattle.std.proofs.Common.{length}
use Rattle.lus_syntax.specs.Grammar.{DerivesItem}
use Rattle.lus_syntax.specs.Sections.{Anything, Run}
use Rattle.lus_syntax.proofs.grammar.items.items.Given as goal

abbrev pub invariant-items : goal.invariant-items
invariant-items l = Run (DerivesItem l.fn.text) Anything l.fn.tokens l.items l.rest

abbrev pub decreases-items : goal.decreases-items
decreases-items l = length l.rest
