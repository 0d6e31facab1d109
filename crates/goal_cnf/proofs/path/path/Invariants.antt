use Rattle.std.specs.Option.{option_map}
use Rattle.unroll_cnf.specs.Made.{word_at}
use Rattle.goal_cnf.proofs.PathMaking.{PathSoFar}
use Rattle.goal_cnf.proofs.path.path.Given as goal

abbrev pub invariant-loop-place : goal.invariant-loop-place
invariant-loop-place l = PathSoFar l.parts.edges l.pin (word_at l.un.words l.t) (option_map (λ ls. ls.now) l.before) l.path l.fn.maker l.maker l.shorter l.place l.lits
