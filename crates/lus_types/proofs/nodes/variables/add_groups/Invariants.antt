use Rattle.std.proofs.Common.{take}
use Rattle.lus_types.specs.Rows.{IsTableOf, IsGrown, names_in}
use Rattle.lus_types.specs.Signatures.{Row, variables_in}
use Rattle.lus_types.specs.Views.{globals_seen, names_seen}
use Rattle.lus_types.proofs.nodes.variables.add_groups.Given as goal

abbrev pub invariant-loop-group : goal.invariant-loop-group
invariant-loop-group l = (row : Row) → IsTableOf l.initial.table row → IsGrown l.table l.initial.tys l.tys row (variables_in (globals_seen l.globals) l.is_input (names_seen l.defined) (names_in row) (take l.group-index l.groups))
