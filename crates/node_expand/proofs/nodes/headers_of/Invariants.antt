use Rattle.std.proofs.Common.{◌≡◌, ◌++◌, drop}
use Rattle.lus_types.specs.Names.{globals}
use Rattle.node_expand.specs.Headers as spec
use Rattle.node_expand.proofs.nodes.headers_of.Given as goal

abbrev pub invariant-loop-decl : goal.invariant-loop-decl
invariant-loop-decl l = spec.heads_seen l.headers ++ spec.heads (globals l.typed.ast.decls) (drop l.decl-index l.decl-items) ≡ spec.heads (globals l.typed.ast.decls) l.typed.ast.decls
