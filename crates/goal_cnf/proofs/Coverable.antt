-- An obligation is reachable exactly where some admissible rows of inputs cover it.
use Rattle.std.proofs.Common.{◌≡◌, ℕ, suc, ◌-◌, length, take, sym, subst, arith}
use Rattle.std.proofs.lemmas.List.Elements.{All-take}
use Rattle.op_network.specs.declared.edge.Parts.{Parts}
use Rattle.op_network.specs.Admissible.{AssertsHold}
use Rattle.op_network.specs.Valid.{FitsRow}
use Rattle.lus_causality.proofs.Runs.{run_of_front}
use Rattle.dep_paths.specs.declared.path.Obligation.{Obligation}
use Rattle.dep_paths.specs.Coverage.{Met}
use Rattle.dep_paths.specs.Duties.{Planned}
use Rattle.dep_paths.proofs.Fronts.{met_both, agree_first}
use Rattle.dep_paths.proofs.Prefix.{agree_back}
use Rattle.goal_cnf.specs.Laws.{ReachableIsCoverable}
use Rattle.goal_cnf.specs.Reaches.{IsCoverable, IsReachable}
use Rattle.goal_cnf.proofs.Reach.{length_taken}

module _ (parts : Parts) (plan : Planned) (o : Obligation) (k : ℕ) where
  -- rows that meet the obligation at their last instant cover it
  covered : IsReachable parts plan o k → IsCoverable parts plan o k
  covered r =
      let t = r.reaches in
      record {
        rows = r.rows;
        few = r.few;
        fits = t.fits;
        frames = t.frames;
        run = t.run;
        admissible = t.admissible;
        covers = record { instant = length r.rows - 1; counts = omega (arith, t.some); met = t.met };
      }

  -- the rows up to the instant at which it is met meet it at their last one
  reached : IsCoverable parts plan o k → IsReachable parts plan o k
  reached c =
      let t = c.covers.instant in
      let rows = take (suc t) c.rows in
      let frames = take (suc t) c.frames in
      let size : length rows ≡ suc t = length_taken (suc t) c.rows (omega (arith, c.covers.counts)) in
      let last : length rows - 1 ≡ t = omega (arith, size) in
      record {
        rows = rows;
        few = omega (arith, size, c.covers.counts, c.few);
        reaches = record {
          some = omega (arith, size);
          fits = All-take (FitsRow parts) (suc t) c.rows c.fits;
          frames = frames;
          run = run_of_front parts.width parts.edges (suc t) c.rows c.frames c.run;
          admissible = All-take (AssertsHold parts) (suc t) c.frames c.admissible;
          met =
              subst (λ u. Met parts plan frames o u) (sym last)
              (met_both parts plan c.frames frames o (suc t) t (agree_back frames c.frames (suc t) (agree_first c.frames (suc t))) (omega arith) c.covers.met);
        };
      }

pub reachable_is_coverable : ReachableIsCoverable
reachable_is_coverable parts plan o k = (covered parts plan o k, reached parts plan o k)
