use Rattle.std.proofs.Common.{◌≡◌, [], drop}
use Rattle.lus_types.specs.Values as spec
use Rattle.lus_types.specs.Views.{globals_seen}
use Rattle.lus_types.proofs.constants.values.values_of.Given as goal

abbrev pub invariant-loop-decl : goal.invariant-loop-decl
invariant-loop-decl l = spec.values_from l.width (globals_seen l.globals) l.values (drop l.decl-index l.decls) ≡ spec.values_from l.width (globals_seen l.globals) [] l.decls
