use Rattle.std.proofs.Common.{length}
use Rattle.std.specs.Option.{option_map}
use Rattle.unroll_cnf.specs.Made.{word_at}
use Rattle.goal_cnf.specs.Made.{tag_of}
use Rattle.goal_cnf.specs.Observation.{past_in}
use Rattle.goal_cnf.proofs.Tagging.{PortsSoFar}
use Rattle.goal_cnf.proofs.observed.tag.Given as goal

abbrev pub invariant-loop-at : goal.invariant-loop-at
invariant-loop-at l = PortsSoFar l.network.edges (tag_of l.condition l.value) l.e l.form (word_at l.un.words l.t) l.bit l.tags (past_in (length l.network.edges) (option_map (λ ls. ls.now) l.before)) l.fn.maker l.maker l.g l.at
