use Rattle.std.proofs.Common.{take}
use Rattle.lus_types.specs.Rows.{IsTableOf, IsGrown, names_in}
use Rattle.lus_types.specs.Signatures.{Row, group_variables}
use Rattle.lus_types.specs.Views.{globals_seen, names_seen}
use Rattle.lus_types.proofs.nodes.variables.add_names.Given as goal

abbrev pub invariant-loop-name : goal.invariant-loop-name
invariant-loop-name l = (row : Row) → IsTableOf l.initial.table row → IsGrown l.table l.initial.tys l.tys row (group_variables (globals_seen l.globals) l.is_input (names_seen l.defined) l.group.clock l.group.ty (names_in row) (take l.name-index l.names))
