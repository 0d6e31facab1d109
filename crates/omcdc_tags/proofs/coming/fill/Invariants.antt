use Rattle.std.proofs.Common.{ℕ, List, length}
use Rattle.dep_paths.specs.declared.path.Condition.{Condition}
use Rattle.dep_paths.specs.Activation.{Frames}
use Rattle.omcdc_tags.specs.Order.{StandsBefore}
use Rattle.omcdc_tags.specs.Rows.{HaveSize, Ready}
use Rattle.omcdc_tags.specs.Tags.{RowsTell}
use Rattle.omcdc_tags.proofs.coming.fill.Given as goal

abbrev pub invariant-loop-place : goal.invariant-loop-place
invariant-loop-place l = record {
  size : HaveSize (length l.net.network.edges) l.table l.rows l.starts l.work;
  earlier : HaveSize (length l.net.network.edges) l.table l.before l.earlier l.work;
  told : (ports : List Condition) (V : Frames) (t : ℕ) → Ready l.net.network.edges ports l.table V t l.frame l.begun l.before l.earlier l.starts
      → RowsTell l.net.network.edges ports V t (StandsBefore l.sequence l.place) l.rows;
}
