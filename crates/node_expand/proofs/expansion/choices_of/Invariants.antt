use Rattle.std.proofs.Common.{◌≡◌, ◌++◌, drop}
use Rattle.node_expand.specs.Expanding.{choices_of}
use Rattle.node_expand.proofs.expansion.choices_of.Given as goal

abbrev pub invariant-loop-decl : goal.invariant-loop-decl
invariant-loop-decl l = l.choices ++ choices_of (drop l.decl-index l.decls) ≡ choices_of l.decls
