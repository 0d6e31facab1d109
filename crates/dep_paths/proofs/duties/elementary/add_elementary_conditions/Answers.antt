use Rattle.std.proofs.Common.{◌∙◌, ◌++◌, ap, arith, take, sym}
use Rattle.dep_paths.specs.declared.path.Path.{Path}
use Rattle.dep_paths.specs.Duties.{elementary_conditions, elementary_duties}
use Rattle.dep_paths.proofs.Numbering.{added, numbered_more}
use Rattle.dep_paths.proofs.duties.elementary.add_elementary_conditions.Goals as goal

pub loop-place-preserved : goal.loop-place-preserved
loop-place-preserved c =
    let edges = c.args.edges.now in
    let paths = c.args.paths.now in
    let place = c.loop-place.place in
    let path = c.index-paths-place.result in
    added _ _ _ (elementary_conditions edges (take place paths)) (elementary_duties edges (place, path)) _ c.loop-place.invariant c.in_ok-add_elementary.ensures
    (numbered_more (elementary_duties edges) paths place path (omega arith)
    ∙ ap (λ (p : Path). elementary_conditions edges (take place paths) ++ elementary_duties edges (place, p)) (sym c.index-paths-place.is))
