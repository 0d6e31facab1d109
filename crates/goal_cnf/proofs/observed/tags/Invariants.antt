use Rattle.std.proofs.Common.{length}
use Rattle.std.specs.Option.{option_map}
use Rattle.unroll_cnf.specs.Made.{word_at}
use Rattle.goal_cnf.specs.Made.{tag_of}
use Rattle.goal_cnf.specs.Observation.{past_in}
use Rattle.goal_cnf.proofs.Tagging.{TagsSoFar}
use Rattle.goal_cnf.proofs.observed.tags.Given as goal

abbrev pub invariant-loop-e : goal.invariant-loop-e
invariant-loop-e l = TagsSoFar l.network.edges (tag_of l.condition l.value) (word_at l.un.words l.t) l.bit (past_in (length l.network.edges) (option_map (λ ls. ls.now) l.before)) l.order l.fn.maker l.maker l.e-index l.tags
