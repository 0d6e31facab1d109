use Rattle.std.proofs.Common.{length}
use Rattle.lus_syntax.specs.Grammar.{DerivesDecl}
use Rattle.lus_syntax.specs.Sections.{EndsDecl, Run}
use Rattle.lus_syntax.proofs.grammar.declarations.decls.Given as goal

abbrev pub invariant-decls : goal.invariant-decls
invariant-decls l = Run (DerivesDecl l.fn.text) EndsDecl l.fn.tokens l.decls l.rest

abbrev pub decreases-decls : goal.decreases-decls
decreases-decls l = length l.rest
