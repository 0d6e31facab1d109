use Rattle.std.proofs.Common.{◌≡◌, ◌++◌, drop}
use Rattle.lus_types.specs.Names.{globals}
use Rattle.node_expand.specs.Law.{program_in}
use Rattle.node_expand.specs.Outlines as spec
use Rattle.node_expand.proofs.outlines.outlines_of.Given as goal

abbrev pub invariant-loop-place : goal.invariant-loop-place
invariant-loop-place l = l.outlines ++ spec.all_outlines (program_in l.typed) (globals l.typed.ast.decls) (drop l.place l.decls) ≡ spec.all_outlines (program_in l.typed) (globals l.typed.ast.decls) l.typed.ast.decls
