use Rattle.std.proofs.Common.{◌≡◌, ◌++◌, drop}
use Rattle.lus_types.specs.Names.{globals}
use Rattle.node_expand.specs.Roots.{declared_variables}
use Rattle.node_expand.proofs.nodes.variables_of.Given as goal

abbrev pub invariant-loop-group : goal.invariant-loop-group
invariant-loop-group l = l.variables ++ declared_variables (globals l.typed.ast.decls) (drop l.group-index l.groups) ≡ declared_variables (globals l.typed.ast.decls) l.groups
