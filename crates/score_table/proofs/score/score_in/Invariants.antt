use Rattle.score_table.proofs.Scoring.{IsScoredBelow}
use Rattle.score_table.proofs.score.score_in.Given as goal

-- the obligations so far
abbrev pub invariant-loop-o : goal.invariant-loop-o
invariant-loop-o l = IsScoredBelow l.criterion l.duties l.covered l.o l.score
