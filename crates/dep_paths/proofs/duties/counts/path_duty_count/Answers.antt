use Rattle.std.proofs.Common.{◌≡◌, ◌+◌, arith, length, subst}
use Rattle.dep_paths.specs.Duties.{elementary_duties, multiple_duties}
use Rattle.dep_paths.specs.declared.path.Path.{Path}
use Rattle.dep_paths.proofs.DutyLists.{duties_more}
use Rattle.dep_paths.proofs.duties.counts.path_duty_count.Goals as goal

pub loop-path-preserved : goal.loop-path-preserved
loop-path-preserved c =
    let edges = c.args.edges.now in
    let counted = subst (λ (p : Path). c.count_on_path.result ≡ length (elementary_duties edges (0, p)) + length (multiple_duties edges (0, p))) c.path-item.is c.count_on_path.ensures.count in
    record {
      so_far = omega (arith, c.loop-path.invariant.so_far, counted, duties_more edges c.args.paths.now c.loop-path.path-index c.path-item.result (omega arith));
      small = omega (arith, c.loop-path.invariant.small, c.count_on_path.ensures.small);
    }
