use Rattle.std.proofs.Common.{◌≡◌, ◌++◌, map}
use Rattle.std.specs.List.{range_with_len}
use Rattle.dep_paths.specs.declared.path.Obligation.TheVariants.{Bc}
use Rattle.dep_paths.proofs.duties.basic.add_basic_coverage.Given as goal

abbrev pub invariant-loop-path : goal.invariant-loop-path
invariant-loop-path l = l.duties ≡ l.fn.duties ++ map Bc (range_with_len 0 l.path)
