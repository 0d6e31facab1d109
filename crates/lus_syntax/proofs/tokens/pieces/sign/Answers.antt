use Rattle.std.proofs.Common.{sym}
use Rattle.lus_syntax.proofs.LongestTokens.{two_longest, one_longest}
use Rattle.lus_syntax.proofs.tokens.pieces.sign.Goals as goal

pub returns-in-Some-clause-some : goal.returns-in-Some-clause-some
returns-in-Some-clause-some c = two_longest _ _ c.requires.no_letter c.requires.no_digit (sym c.in-Some.ensures)

pub returns-in-Some-single-clause-some : goal.returns-in-Some-single-clause-some
returns-in-Some-single-clause-some c = one_longest _ _ c.requires.some c.requires.no_letter c.requires.no_digit (sym c.in-None.ensures) (sym c.in-Some-single.ensures)
