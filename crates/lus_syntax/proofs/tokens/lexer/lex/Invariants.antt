use Rattle.std.proofs.Common.{◌-◌, ◌≤◌, length}
use Rattle.lus_syntax.specs.Cuts.{Cuts}
use Rattle.lus_syntax.proofs.tokens.lexer.lex.Given as goal

abbrev pub invariant-loop-at : goal.invariant-loop-at
invariant-loop-at l = record { cut : Cuts l.text 0 l.tokens l.at; within : l.at ≤ length l.text }

abbrev pub decreases-loop-at : goal.decreases-loop-at
decreases-loop-at l = length l.text - l.at
