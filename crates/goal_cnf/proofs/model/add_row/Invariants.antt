use Rattle.std.proofs.Common.{◌≡◌, ◌++◌}
use Rattle.unroll_cnf.specs.Made.{word_at}
use Rattle.goal_cnf.specs.Decoded.{valuation}
use Rattle.goal_cnf.proofs.Decoding.{first_values}
use Rattle.goal_cnf.proofs.model.add_row.Given as goal

abbrev pub invariant-loop-e : goal.invariant-loop-e
invariant-loop-e l = l.values ≡ l.fn.values ++ first_values l.parts (valuation l.bits) (word_at l.un.words l.t) l.e-index
