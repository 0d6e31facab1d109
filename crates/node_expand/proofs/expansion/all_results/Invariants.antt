use Rattle.std.proofs.Common.{◌≡◌, ◌++◌, drop}
use Rattle.lus_types.specs.Names.{globals}
use Rattle.node_expand.specs.Known as known
use Rattle.node_expand.specs.Law.{program_in}
use Rattle.node_expand.proofs.expansion.all_results.Given as goal

abbrev pub invariant-loop-place : goal.invariant-loop-place
invariant-loop-place l = l.all ++ known.all_results (program_in l.typed) (globals l.typed.ast.decls) l.sizes (drop l.place l.decls) ≡ known.all_results (program_in l.typed) (globals l.typed.ast.decls) l.sizes l.typed.ast.decls
