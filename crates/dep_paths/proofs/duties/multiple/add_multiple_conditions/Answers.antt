use Rattle.std.proofs.Common.{◌∙◌, ◌++◌, ap, arith, take, sym}
use Rattle.dep_paths.specs.declared.path.Path.{Path}
use Rattle.dep_paths.specs.Duties.{multiple_conditions, multiple_duties}
use Rattle.dep_paths.proofs.Numbering.{added, numbered_more}
use Rattle.dep_paths.proofs.duties.multiple.add_multiple_conditions.Goals as goal

pub loop-place-preserved : goal.loop-place-preserved
loop-place-preserved c =
    let edges = c.args.edges.now in
    let paths = c.args.paths.now in
    let place = c.loop-place.place in
    let path = c.index-paths-place.result in
    added _ _ _ (multiple_conditions edges (take place paths)) (multiple_duties edges (place, path)) _ c.loop-place.invariant c.in_ok-add_multiple.ensures
    (numbered_more (multiple_duties edges) paths place path (omega arith)
    ∙ ap (λ (p : Path). multiple_conditions edges (take place paths) ++ multiple_duties edges (place, p)) (sym c.index-paths-place.is))
