use Rattle.std.proofs.Common.{◌≡◌, min, ◌+◌, ◌≤◌, drop, map, ℕ, List}
use Rattle.lus_syntax.specs.declared.ast.Expr.{Expr}
use Rattle.lus_types.specs.Programs.{Node, Program}
use Rattle.node_expand.specs.Counts as spec
use Rattle.node_expand.specs.Fragments.{total}
use Rattle.node_expand.specs.Headers.{node_seen}
use Rattle.node_expand.specs.Law.{program_in}
use Rattle.node_expand.proofs.counts.+own_count.Given as goal

-- the sum and what is left make the whole, cut at the widest number
pub record Sums (program : Program) (node : Node) (so_far : ℕ) (rest : List Expr) (whole : Expr) : Type 0 where
  pub same : min (so_far + total (map (spec.own_count program node) rest)) 0xFFFF_FFFF ≡ min (spec.own_count program node whole) 0xFFFF_FFFF
  pub fits : so_far ≤ 0xFFFF_FFFF

abbrev pub invariant-loop-arg : goal.invariant-loop-arg
invariant-loop-arg l = Sums (program_in l.typed) (node_seen l.header) l.sum (drop l.arg-index l.arg-items) l.expr
