use Rattle.std.proofs.Common.{◌≡◌, ◌<◌, ◌≤◌, length, Bool, ◌+◌, ◌*◌}
use Rattle.lus_syntax.specs.Grammar.{spelling}
use Rattle.lus_syntax.specs.Reading.{Partway, Called}
use Rattle.lus_syntax.proofs.grammar.expressions.+expressions.Given as goal

abbrev pub decreases-ranked : goal.decreases-ranked
decreases-ranked l = 16 * length l.tokens.now + 4

abbrev pub decreases-operand : goal.decreases-operand
decreases-operand l = 16 * length l.tokens.now + 3

abbrev pub decreases-nots : goal.decreases-nots
decreases-nots l = 16 * length l.tokens.now + 5

abbrev pub decreases-arguments : goal.decreases-arguments
decreases-arguments l = 16 * length l.tokens.now + 5

abbrev pub decreases-prefixed : goal.decreases-prefixed
decreases-prefixed l = 16 * length l.more.now + 8

abbrev pub decreases-conditional : goal.decreases-conditional
decreases-conditional l = 16 * length l.more.now + 8

abbrev pub decreases-atom : goal.decreases-atom
decreases-atom l = 16 * length l.more.now + 9

abbrev pub decreases-parens : goal.decreases-parens
decreases-parens l = 16 * length l.more.now + 8

abbrev pub decreases-named : goal.decreases-named
decreases-named l = 16 * length l.more.now + 8

abbrev pub invariant-ranked-loop-token : goal.invariant-ranked-loop-token
invariant-ranked-loop-token l = record { partway : (o : Bool) × Partway l.fn.text l.fn.rank l.level l.fn.tokens l.left o l.rest; shorter : length l.rest < length l.fn.tokens }

abbrev pub decreases-ranked-loop-token : goal.decreases-ranked-loop-token
decreases-ranked-loop-token l = length l.rest

abbrev pub invariant-arguments-loop-spelling : goal.invariant-arguments-loop-spelling
invariant-arguments-loop-spelling l = record { called : Called l.fn.text l.fn.name l.fn.tokens l.arguments l.rest; spelled : l.spelling ≡ spelling l.fn.text l.fn.name; shorter : length l.rest ≤ length l.fn.tokens }

abbrev pub decreases-arguments-loop-spelling : goal.decreases-arguments-loop-spelling
decreases-arguments-loop-spelling l = length l.rest
