use Rattle.std.proofs.Common.{◌≡◌, ◌++◌, drop}
use Rattle.std.specs.List.{flat_map}
use Rattle.lus_types.specs.Names.{globals}
use Rattle.node_expand.specs.Outlines as spec
use Rattle.node_expand.proofs.outlines.+callees.Given as goal

abbrev pub invariant-add_callees_of_args-loop-arg : goal.invariant-add_callees_of_args-loop-arg
invariant-add_callees_of_args-loop-arg l = l.callees ++ flat_map (spec.callees (globals l.typed.ast.decls)) (drop l.arg-index l.args) ≡ l.initial.callees ++ flat_map (spec.callees (globals l.typed.ast.decls)) l.args
