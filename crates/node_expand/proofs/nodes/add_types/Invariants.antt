use Rattle.std.proofs.Common.{◌≡◌, drop}
use Rattle.node_expand.specs.NameTables.{with_entries}
use Rattle.node_expand.specs.Variables.{typed_names}
use Rattle.node_expand.proofs.nodes.add_types.Given as goal

abbrev pub invariant-loop-variable : goal.invariant-loop-variable
invariant-loop-variable l = with_entries l.types (typed_names (drop l.variable-index l.variables)) ≡ with_entries l.initial.types (typed_names l.variables)
