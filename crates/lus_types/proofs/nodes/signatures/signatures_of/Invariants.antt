use Rattle.std.proofs.Common.{◌≡◌, map, take}
use Rattle.lus_types.specs.Signatures as spec
use Rattle.lus_types.specs.Views.{globals_seen}
use Rattle.lus_types.proofs.nodes.signatures.signatures_of.Given as goal

abbrev pub invariant-loop-decl : goal.invariant-loop-decl
invariant-loop-decl l = l.list ≡ map (spec.signature (globals_seen l.globals)) (take l.decl-index l.decls)
