use Rattle.std.proofs.Common.{[], ◌∷◌, map, arith}
use Rattle.std.specs.List.{range_with_len}
use Rattle.std.proofs.lemmas.List.FromFn.{map-range_with_len_more}
use Rattle.dep_paths.specs.declared.path.Obligation.TheVariants.{Bc}
use Rattle.dep_paths.proofs.Numbering.{added}
use Rattle.dep_paths.proofs.duties.basic.add_basic_coverage.Goals as goal

pub loop-path-preserved : goal.loop-path-preserved
loop-path-preserved c =
    let path = c.loop-path.path in
    added _ _ _ (map Bc (range_with_len 0 path)) (Bc path ∷ []) _ c.loop-path.invariant c.in_ok-add.ensures.ok (map-range_with_len_more Bc 0 path path (omega arith))
